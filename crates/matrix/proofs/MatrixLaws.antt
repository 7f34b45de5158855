-- Laws of the delta, of one change of a matrix, and of the cells outside a block.
-- Assumes nothing.
use mathlib.Core.Path.{◌≡◌, refl, sym, ap, ◌∙◌, subst, subst₂}
use mathlib.Core.Bool.{Bool}
use mathlib.Core.List.{List}
use mathlib.Core.Logic.{◌≢◌, ◌⊎◌, inl, inr, ⊎_elim}
use Prim.Native.Nat.{ℕ, ◌+◌, ◌*◌, ◌≤◌, ◌<◌}
use native.Mathlib.Nat.{add_comm}
use native.Mathlib.Numerals.{add-one}
use native.Mathlib.Decide.{ℕ_discrete}
use native.Mathlib.Omega.{arith}
use lib.ListN.{length, get_or, set}
use lib.Seq.{get_or-set_same, get_or-set_other}
use borrow.Author.Tests.{eq-eqb, ne_eqb}
use Rattle.simulation.specs.Limits.{most_states}
use Rattle.simulation.specs.Sum.{sum, when}
use Rattle.simulation.proofs.Finite.Sums.{sum_ext, sum-zero, sum_add, sum_term, sum_pick}
use Rattle.matrix.specs.Matrix.{cell, Outside, delta, row_sum, column_sum, Put, AddsAt, Adds}

-- sums up to n + 1, as a loop makes them
pub sum-next : (n : ℕ) (f : ℕ → ℕ) → sum (n + 1) f ≡ sum n f + f n
unfolding sum
sum-next n f = ap (λ (m : ℕ). sum m f) (add-one n) ∙ add_comm (f n) (sum n f)

pub running : (n : ℕ) (f : ℕ → ℕ) {s v : ℕ} → s ≡ sum n f → v ≡ f n → s + v ≡ sum (n + 1) f
running n f e c = omega (arith, sum-next n f)

pub delta-same : (k d : ℕ) → delta k k d ≡ d
unfolding delta
delta-same k d = ap (λ (b : Bool). when b d) (eq-eqb k k refl)

pub delta_eq : {k n : ℕ} (d : ℕ) → k ≡ n → delta k n d ≡ d
delta_eq {k} {n} d e = subst (λ (m : ℕ). delta k m d ≡ d) e (delta-same k d)

pub delta-other : {k n : ℕ} (d : ℕ) → k ≢ n → delta k n d ≡ 0
unfolding delta
delta-other {k} {n} d h = ap (λ (b : Bool). when b d) (ne_eqb k n h)

pub delta-zero : (k n : ℕ) → delta k n 0 ≡ 0
delta-zero k n = elim (ℕ_discrete k n) [ yes e ↦ delta_eq 0 e | no h ↦ delta-other 0 h ]

pub delta_swap : (i i' j j' d : ℕ) → delta i i' (delta j j' d) ≡ delta j j' (delta i i' d)
delta_swap i i' j j' d = elim (ℕ_discrete i i') [
  | yes e ↦ delta_eq (delta j j' d) e ∙ ap (delta j j') (sym (delta_eq d e))
  | no h ↦ delta-other (delta j j' d) h ∙ sym (ap (delta j j') (delta-other d h) ∙ delta-zero j j')
]

pub sum-delta : (n k d : ℕ) → k < n → sum n (λ l. delta k l d) ≡ d
unfolding delta
sum-delta n k d h = sum_pick n k (λ l. d) h

-- d less at a place
pub set_takes_at : (x : List ℕ) (k v d : ℕ) → k < length x → v + d ≡ get_or x k 0 → AddsAt (set x k v) x k d
set_takes_at x k v d h e = record {
  more = λ l. elim (ℕ_discrete k l) [
    | yes s ↦ subst (λ (m : ℕ). get_or x m 0 ≡ get_or (set x k v) m 0 + delta k m d) s (omega (arith, get_or-set_same x k v 0 h, delta-same k d))
    | no o ↦ omega (arith, get_or-set_other x k l v 0 (λ c. o (sym c)), delta-other d o)
  ];
}

pub adds_at-other : {x y : List ℕ} {k d : ℕ} → AddsAt x y k d → (l : ℕ) → k ≢ l → get_or y l 0 ≡ get_or x l 0
adds_at-other {d = d} a l o = omega (arith, a.more l, delta-other d o)

-- a place in a row of most-states has one row and one column
pub put_set : (x : List ℕ) (i j v : ℕ) → j < most_states → i * most_states + j < length x → Put x (set x (i * most_states + j) v) i j v
put_set x i j v h l = record {
  here = get_or-set_same x (i * most_states + j) v 0 l;
  others = λ i' j' h' o. get_or-set_other x (i * most_states + j) (i' * most_states + j') v 0 (λ e. ⊎_elim (λ n. n (omega arith)) (λ n. n (omega arith)) o);
}

-- only row i, column j changes, by d more
adds_here : {x y : List ℕ} {i j d : ℕ} → cell y i j ≡ cell x i j + d → ((i' j' : ℕ) → j' < most_states → (i' ≢ i) ⊎ (j' ≢ j) → cell y i' j' ≡ cell x i' j') → Adds x y i j d
adds_here {x} {y} {i} {j} {d} e o = record {
  more = λ i' j' h. elim (ℕ_discrete i i') [
    | yes s ↦ elim (ℕ_discrete j j') [
      | yes t ↦ subst₂ (λ (i' j' : ℕ). cell y i' j' ≡ cell x i' j' + delta i i' (delta j j' d)) s t (omega (arith, delta-same i (delta j j d), delta-same j d))
      | no n ↦ omega (arith, o i' j' h (inr (λ c. n (sym c))), delta_eq (delta j j' d) s, delta-other d n)
    ]
    | no n ↦ omega (arith, o i' j' h (inl (λ c. n (sym c))), delta-other (delta j j' d) n)
  ];
}

pub put_adds : {x y : List ℕ} {i j v d : ℕ} → Put x y i j v → v ≡ cell x i j + d → Adds x y i j d
put_adds s e = adds_here (s.here ∙ e) s.others

-- d less is d more the other way round
pub put_takes : {x y : List ℕ} {i j v d : ℕ} → Put x y i j v → v + d ≡ cell x i j → Adds y x i j d
put_takes {d = d} s e = adds_here (sym e ∙ ap (λ (m : ℕ). m + d) (sym s.here)) (λ i' j' h o. sym (s.others i' j' h o))

module _ (p q : ℕ) {x y : List ℕ} {i j d : ℕ} (w : q ≤ most_states) (a : Adds x y i j d) where
  pub row_adds : j < q → (i' : ℕ) → row_sum q y i' ≡ row_sum q x i' + delta i i' d
  unfolding row_sum
  row_adds h i' =
      sum_ext q (λ j'. cell y i' j') (λ j'. cell x i' j' + delta j j' (delta i i' d)) (λ j' l. a.more i' j' (omega arith) ∙ ap (λ (m : ℕ). cell x i' j' + m) (delta_swap i i' j j' d))
      ∙ sum_add q (λ j'. cell x i' j') (λ j'. delta j j' (delta i i' d))
      ∙ ap (λ (m : ℕ). sum q (λ j'. cell x i' j') + m) (sum-delta q j (delta i i' d) h)

  pub column_adds : i < p → (j' : ℕ) → j' < q → column_sum p y j' ≡ column_sum p x j' + delta j j' d
  unfolding column_sum
  column_adds h j' l =
      sum_ext p (λ i'. cell y i' j') (λ i'. cell x i' j' + delta i i' (delta j j' d)) (λ i' m. a.more i' j' (omega arith))
      ∙ sum_add p (λ i'. cell x i' j') (λ i'. delta i i' (delta j j' d))
      ∙ ap (λ (m : ℕ). sum p (λ i'. cell x i' j') + m) (sum-delta p i (delta j j' d) h)

-- sums of equal cells, and of none
pub row_same : (n i : ℕ) (x y : List ℕ) → ((j : ℕ) → j < n → cell y i j ≡ cell x i j) → row_sum n y i ≡ row_sum n x i
unfolding row_sum
row_same n i x y h = sum_ext n (λ j. cell y i j) (λ j. cell x i j) h

pub column-same : (n j : ℕ) (x y : List ℕ) → ((i : ℕ) → i < n → cell y i j ≡ cell x i j) → column_sum n y j ≡ column_sum n x j
unfolding column_sum
column-same n j x y h = sum_ext n (λ i. cell y i j) (λ i. cell x i j) h

pub row_sum-none : (n i : ℕ) (x : List ℕ) → ((j : ℕ) → j < n → cell x i j ≡ 0) → row_sum n x i ≡ 0
unfolding row_sum
row_sum-none n i x h = sum_ext n (λ j. cell x i j) (λ j. 0) h ∙ sum-zero n

pub column-none : (n j : ℕ) (x : List ℕ) → ((i : ℕ) → i < n → cell x i j ≡ 0) → column_sum n x j ≡ 0
unfolding column_sum
column-none n j x h = sum_ext n (λ i. cell x i j) (λ i. 0) h ∙ sum-zero n

pub cell_le : (q : ℕ) (x : List ℕ) (i j : ℕ) → j < q → cell x i j ≤ row_sum q x i
unfolding row_sum
cell_le q x i j h = sum_term q (λ k. cell x i k) j h

-- cells of other rows and of other columns stay
pub adds_row : {x y : List ℕ} {i j d : ℕ} → Adds x y i j d → (i' j' : ℕ) → j' < most_states → i ≢ i' → cell y i' j' ≡ cell x i' j'
adds_row {j = j} {d = d} a i' j' h o = omega (arith, a.more i' j' h, delta-other (delta j j' d) o)

pub adds_column : {x y : List ℕ} {i j d : ℕ} → Adds x y i j d → (i' j' : ℕ) → j' < most_states → j ≢ j' → cell y i' j' ≡ cell x i' j'
adds_column {i = i} {j = j} {d = d} a i' j' h o = omega (arith, a.more i' j' h, delta_swap i i' j j' d, delta-other (delta i i' d) o)

pub outside_refl : {p q : ℕ} (x : List ℕ) → Outside p q x x
outside_refl x = record { rows = λ i j h l. refl; columns = λ i j h l. refl }

pub outside_trans : {p q : ℕ} {x y z : List ℕ} → Outside p q x y → Outside p q y z → Outside p q x z
outside_trans s t = record { rows = λ i j h l. t.rows i j h l ∙ s.rows i j h l; columns = λ i j h l. t.columns i j h l ∙ s.columns i j h l }

pub outside_sym : {p q : ℕ} {x y : List ℕ} → Outside p q x y → Outside p q y x
outside_sym s = record { rows = λ i j h l. sym (s.rows i j h l); columns = λ i j h l. sym (s.columns i j h l) }

pub outside_adds : {p q : ℕ} {x y : List ℕ} {i j d : ℕ} → i < p → j < q → Adds x y i j d → Outside p q x y
outside_adds hi hj a = record {
  rows = λ k l h m. adds_row a k l m (λ e. omega arith);
  columns = λ k l h m. adds_column a k l m (λ e. omega arith);
}
