-- The weight of a set's members, added up by a walk, and two such weights compared.
-- Assumes nothing.
use mathlib.Core.Path.{◌≡◌, refl, sym, ap, ap₂, ◌∙◌}
use mathlib.Core.Bool.{Bool, true, not, cond, ◌&&◌, and-true, and-false}
use mathlib.Core.List.{List}
use Prim.Native.Nat.{ℕ, ◌+◌, ◌*◌, ◌^◌, ◌≤◌, ◌<◌}
use native.Mathlib.Omega.{arith}
use borrow.Author.Tests.{eq-eqb, ne_eqb, lt-ltb, le-ltb}
use lib.Dec.{ltb}
use lib.ListN.{length}
use Rattle.simulation.specs.Limits.{most_states, most_total}
use Rattle.simulation.specs.Sum.{when}
use Rattle.simulation.specs.Fit.{weight, weight_of, total}
use Rattle.simulation.proofs.Finite.Sums.{sum_change, sum_term, sum_bound, when-most}
use Rattle.simulation.proofs.Fit.Quick.{weight-none, weight-most}
use Rattle.word.specs.Mask.{Test, member, without_member, Lowest}
use Rattle.cut.specs.Quick.{heavier}
use Rattle.greedy.proofs.StartLaws.{supply-fits}
use Rattle.matrix.proofs.MaskedLaws.{no_members, drop_at}

-- s is the weight of the members that the walk has passed, and left has the others
pub record Weighed (w : List ℕ) (named s left : ℕ) : Type 0 where
  pub below : (i : ℕ) → member left i ≡ true → i < length w
  pub adds : s + weight_of w (member left) ≡ weight_of w (member named)

pub weighed_none : {w : List ℕ} {named : ℕ} → ((i : ℕ) → member named i ≡ true → i < length w) → Weighed w named 0 named
weighed_none h = record { below = h; adds = omega arith }

-- a set weighs as much more as the member that it has more
takes : (w : List ℕ) (X Y : Test) (t : ℕ) → t < length w → X t ≡ true → Y ≡ without_member t X → weight w t + weight_of w Y ≡ weight_of w X
takes w X Y t l here e =
    omega (
      arith,
      sum_change (length w) (λ i. when (X i) (weight w i)) (λ i. when (Y i) (weight w i)) t l
          (λ k _ d. ap (λ (b : Bool). when b (weight w k)) (sym (ap (λ (Z : Test). Z k) e ∙ ap (λ (b : Bool). X k && not b) (ne_eqb k t d) ∙ and-true (X k)))),
      ap (λ (b : Bool). when b (weight w t)) here,
      ap (λ (b : Bool). when b (weight w t)) (ap (λ (Z : Test). Z t) e ∙ ap (λ (b : Bool). X t && not b) (eq-eqb t t refl) ∙ and-false (X t)),
    )

-- the lowest member left is weighed
module _ {w : List ℕ} {named s left t : ℕ} (h : Weighed w named s left) (low : Lowest (member left) t) where
  pub weighed_place : t < length w
  weighed_place = h.below t low.here

  pub weighed_next : {left' v : ℕ} → member left' ≡ without_member t (member left) → v ≡ weight w t → Weighed w named (s + v) left'
  weighed_next {left'} e v =
      record {
        below = λ i m. h.below i (drop_at (member left) t i e m).0;
        adds = omega (arith, h.adds, takes w (member left) (member left') t weighed_place low.here e);
      }

  -- the sum stays small
  pub weighed_small : {v : ℕ} → length w ≤ most_states → ((i : ℕ) → weight w i < 2 ^ 16) → v ≡ weight w t → s + v < 2 ^ 32
  weighed_small few bound e =
      omega (
        arith,
        h.adds,
        sum_term (length w) (λ i. when (member left i) (weight w i)) t weighed_place,
        ap (λ (b : Bool). when b (weight w t)) low.here,
        sum_bound (length w) (2 ^ 16) (λ i. when (member named i) (weight w i)) (λ i _. omega (arith, when-most (member named i) (weight w i), bound i)),
      )

pub weighed_all : {w : List ℕ} {named s left : ℕ} → left ≡ 0 → Weighed w named s left → s ≡ weight_of w (member named)
weighed_all {w} {left = left} z h = omega (arith, h.adds, weight-none w (member left) (λ i _. no_members z i))

-- what a part of one weighs, by the total of the other, fits 32 bits
pub weights-small : (ws vs : List ℕ) (S : Test) {a b : ℕ} → a ≡ weight_of ws S → b ≡ total vs → total ws ≤ most_total → total vs ≤ most_total → a * b < 2 ^ 32
weights-small ws vs S {a} {b} e f l m = supply-fits a b (omega (arith, weight-most ws S)) (omega arith)

-- the comparison, as the code makes it
module _ (ws vs : List ℕ) (rows has : ℕ) {a b c d : ℕ} (ea : a ≡ weight_of vs (member has)) (eb : b ≡ total ws) (ec : c ≡ weight_of ws (member rows)) (ed : d ≡ total vs) where
  weighs_as : ltb (a * b) (c * d) ≡ ltb (weight_of vs (member has) * total ws) (weight_of ws (member rows) * total vs)
  weighs_as = ap₂ ltb (ap₂ ◌*◌ ea eb) (ap₂ ◌*◌ ec ed)

  pub heavier-rows : a * b < c * d → rows ≡ heavier ws vs rows has
  unfolding heavier
  heavier-rows l = ap (λ (t : Bool). cond t rows 0) (sym (lt-ltb (a * b) (c * d) l) ∙ weighs_as)

  pub heavier-none : c * d ≤ a * b → {r : ℕ} → r ≡ 0 → r ≡ heavier ws vs rows has
  unfolding heavier
  heavier-none l e = e ∙ ap (λ (t : Bool). cond t rows 0) (sym (le-ltb (a * b) (c * d) l) ∙ weighs_as)
