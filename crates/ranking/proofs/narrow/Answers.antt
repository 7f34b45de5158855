-- `ranking::narrow` meets its contract: the rows passed are cut. Assumes nothing.
use mathlib.Core.Path.{◌≡◌, refl, sym, ap, ◌∙◌, subst}
use mathlib.Core.List.{List}
use Prim.Native.Nat.{ℕ, ◌+◌, ◌≤◌, ◌<◌}
use native.Mathlib.Omega.{arith}
use Rattle.word.specs.Mask.{Test, member, both, up_to}
use Rattle.set.specs.Words.{mask}
use Rattle.set.proofs.Sets.{both_of}
use Rattle.relation.specs.Rows.{row_of}
use Rattle.relation.specs.Related.{holds}
use Rattle.ranking.proofs.Writing.{rows_next, rows_left}
use Rattle.ranking.proofs.narrow.Goals as goal

pub loop-s-init : goal.loop-s-init
loop-s-init c = (λ r t a. absurd (omega arith), λ r a. refl)

pub loop-s-preserved : goal.loop-s-preserved
loop-s-preserved c =
    let x = c.intersection in
    let b = c.below-columns in
    let a = c.args in
    let o = c.loop-s in
    let cut : ℕ → Test = λ r. both (holds a.rows.now r) (up_to a.q) in
    let row = both_of (c.get.ensures ∙ o.invariant.1 o.s (omega arith)) (member (mask b.result)) x.ensures ∙ ap (both (holds a.rows.now o.s)) b.ensures in (
      subst (λ (l : List ℕ). (r t : ℕ) → r < o.s + 1 → holds l r t ≡ cut r t) (sym c.put.ensures) (rows_next cut o.rows o.s x.result (omega arith) row o.invariant.0),
      subst (λ (l : List ℕ). (r : ℕ) → o.s + 1 ≤ r → row_of l r ≡ row_of a.rows.now r) (sym c.put.ensures) (rows_left a.rows.now o.rows o.s x.result o.invariant.1),
    )

pub returns : goal.returns
returns c = λ s t a. c.loop-s.invariant.0 s t (omega arith)
