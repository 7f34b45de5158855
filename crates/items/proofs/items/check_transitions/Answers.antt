-- `items::items::check_transitions` meets its contract: the first transition that is refused tells its refusal.
-- Assumes nothing.
use Rattle.std.proofs.Common.{rules}
use mathlib.Core.Path.{◌≡◌}
use Prim.Native.Nat.{◌+◌, ◌*◌}
use native.Mathlib.Omega.{arith}
use Rattle.layout.specs.Bytes.{first, transition_refusal}
use Rattle.layout.specs.Refusals.{number_of}
use Rattle.layout.proofs.Laws.{items_more, items_here, items_all}
use Rattle.layout.proofs.RefusalLaws.{number_positive}
use Rattle.items.proofs.items.check_transitions.Goals as goal

pub returns-in_err-check_transition : goal.returns-in_err-check_transition
returns-in_err-check_transition c =
    let a = c.args in
    let e = c.in_err-check_transition.field-0.0 in
    let told : first 0 a.m (λ j. transition_refusal a.s.now.width a.s.now.bytes.now (a.at + (a.s.now.width + 1) * j)) ≡ number_of e =
    items_here _ _ _ c.loop-j.invariant (omega arith) c.in_err-check_transition.ensures (number_positive e) in
    search rules

pub loop-j-preserved : goal.loop-j-preserved
loop-j-preserved c = items_more _ _ _ c.loop-j.invariant (omega arith) c.in_ok-check_transition.ensures

pub returns : goal.returns
returns c = items_all _ _ _ c.loop-j.invariant (omega arith)
