-- `items::items::check_codes` meets its contract: the codes at i and before it tell the refusal there.
-- Assumes nothing.
use Rattle.std.proofs.Common.{rules}
use mathlib.Core.Path.{◌≡◌, ◌∙◌}
use mathlib.Core.List.{List}
use Prim.Native.Nat.{ℕ, pred, ◌+◌, ◌-◌, ◌≤◌}
use native.Mathlib.Omega.{arith}
use lib.Dec.{ltb}
use Rattle.layout.specs.Bytes.{refuse◌unless◌, first, code, code_refusal}
use Rattle.layout.specs.Refusals.{number_of}
use Rattle.layout.proofs.Laws.{items_more, items_here, items_all}
use Rattle.layout.proofs.RefusalLaws.{number_positive}
use Rattle.items.proofs.items.check_codes.Goals as goal

judged : (w : ℕ) (s : List ℕ) (i : ℕ) {a b : ℕ} → 1 ≤ i → a ≡ code w s i → b ≡ code w s (i - 1) → code_refusal w s (i - 1) ≡ refuse 3 unless ltb b a
unfolding code_refusal
judged w s i h p q =
    let e : i - 1 + 1 ≡ i = omega arith in
    rw (e, p, q)

pub returns-in_err-unless : goal.returns-in_err-unless
returns-in_err-unless c =
    let a = c.args in
    let e = c.in_err-unless.field-0.0 in
    let here = judged _ _ c.loop-i.i c.loop-i.auto.i c.code_at-in-loop-i.ensures.is c.code_at.ensures.is in
    let told : first 0 (pred a.n) (code_refusal a.s.now.width a.s.now.bytes.now) ≡ number_of e =
    items_here _ _ _ c.loop-i.invariant (omega arith) (here ∙ c.in_err-unless.ensures) (number_positive e) in
    search rules

pub loop-i-preserved : goal.loop-i-preserved
loop-i-preserved c =
    let here = judged _ _ c.loop-i.i c.loop-i.auto.i c.code_at-in-loop-i.ensures.is c.code_at.ensures.is in
    let next : c.loop-i.i + 1 - 1 ≡ c.loop-i.i - 1 + 1 = omega arith in
    rw next (items_more _ _ _ c.loop-i.invariant (omega arith) (here ∙ c.in_ok-unless.ensures))

pub returns : goal.returns
returns c = items_all _ _ _ c.loop-i.invariant (omega arith)
