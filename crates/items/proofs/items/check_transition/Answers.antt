-- `items::items::check_transition` meets its contract: the search of the codes and the size tell the refusal.
-- Assumes nothing.
use Rattle.std.proofs.Common.{rules}
use mathlib.Core.Path.{◌≡◌, ◌∙◌}
use mathlib.Core.Bool.{Bool}
use mathlib.Core.List.{List}
use Prim.Native.Nat.{ℕ, ◌+◌}
use lib.Dec.{eqb, ltb}
use Rattle.simulation.specs.Sum.{any}
use Rattle.layout.specs.Bytes.{◌then◌, refuse◌unless◌, actions, byte, field, code, transition_refusal}
use Rattle.layout.specs.Refusals.{number_of}
use Rattle.layout.proofs.SectionLaws.{then_zero}
use Rattle.layout.proofs.RefusalLaws.{told_first}
use Rattle.items.proofs.items.check_transition.Goals as goal

judged : (w : ℕ) (s : List ℕ) (p : ℕ) {n x size : ℕ} {known : Bool} → n ≡ actions w s → x ≡ field w s p → known ≡ any n (λ i. eqb (code w s i) x)
    → size ≡ byte s (p + w) → transition_refusal w s p ≡ refuse 6 unless known then refuse 8 unless ltb 0 size
unfolding transition_refusal
judged w s p e f g h = rw (g, e, f, h)

pub returns-in_err-unless : goal.returns-in_err-unless
returns-in_err-unless c =
    let a = c.args in
    let e = c.in_err-unless.field-0.0 in
    let here = judged _ _ _ c.requires.codes.0 c.field_at.ensures.is c.listed-known.ensures c.byte_at-size.ensures.is in
    let told : transition_refusal a.s.now.width a.s.now.bytes.now a.p ≡ number_of e = here ∙ told_first _ e c.in_err-unless.ensures in
    search rules

pub returns : goal.returns
returns c =
    rw (judged _ _ _ c.requires.codes.0 c.field_at.ensures.is c.listed-known.ensures c.byte_at-size.ensures.is ∙ then_zero _ c.in_ok-unless.ensures) c.unless-2.ensures
