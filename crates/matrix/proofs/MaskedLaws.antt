-- Members of masks after an operation, and the masks of the places where a number is not 0.
-- Assumes nothing.
use mathlib.Core.Path.{◌≡◌, refl, sym, ap, ◌∙◌, subst⁻¹, fun_ext}
use mathlib.Core.Bool.{Bool, true, false, not, cond, ◌&&◌, ◌||◌, true≢false}
use mathlib.Core.List.{List}
use mathlib.Core.Logic.{◌≢◌, ◌⊎◌, inl, inr, ⊎_elim}
use Prim.Native.Nat.{ℕ, ◌≤◌, ◌<◌}
use native.Mathlib.Decide.{ℕ_discrete}
use native.Mathlib.Omega.{arith}
use lib.Dec.{eqb, ltb}
use borrow.Author.Tests.{eq-eqb, ne_eqb, eqb-true, eqb-false, lt-ltb, ltb-true}
use Rattle.simulation.specs.Limits.{most_states}
use Rattle.simulation.proofs.Finite.Tests.{both_true, either_true, left_true, right_true}
use Rattle.word.specs.Mask.{Test, member, part, with_member, without_member, both, except, either}
use Rattle.set.specs.Words.{mask}
use Rattle.relation.specs.Rows.{row_of, height, put_row}
use Rattle.set.specs.declared.Set.{Set}
use Rattle.word.proofs.Mask.{member-none, below_or_not}
use Rattle.relation.proofs.RowLaws.{row_put, row_put_other}
use Rattle.relation.specs.Related.{holds}
use Rattle.matrix.specs.Matrix.{cell, Adds}
use Rattle.matrix.specs.Masks.{nonzero, with_nonzero, MaskOf, Used, Noted}
use Rattle.matrix.proofs.MatrixLaws.{adds_row, adds_column}

and_not : (a b : Bool) → (a && not b) ≡ true → (a ≡ true) × (b ≡ false)
and_not true true e = absurd (true≢false (sym e))
and_not true false e = (refl, refl)
and_not false b e = absurd (true≢false (sym e))

not_and : (a b : Bool) → (a && not b) ≡ false → (b ≡ true) ⊎ (a ≡ false)
not_and true true e = inl refl
not_and true false e = absurd (true≢false e)
not_and false b e = inr refl

pub true_or_false : (b : Bool) → (b ≡ true) ⊎ (b ≡ false)
true_or_false true = inl refl
true_or_false false = inr refl

pub neither : {b : Bool} → b ≡ true → b ≡ false → ⊥
neither e f = true≢false (sym e ∙ f)

-- a member of an intersection, a difference, a union
module _ (X Y : Test) {Z : Test} (i : ℕ) where
  pub both_at : Z ≡ both X Y → Z i ≡ true → (X i ≡ true) × (Y i ≡ true)
  both_at e t = both_true (X i) (Y i) (sym (ap (λ (W : Test). W i) e) ∙ t)

  pub both_out : Z ≡ both X Y → Z i ≡ false → X i ≡ true → Y i ≡ false
  both_out e f t = ap (λ c. c && Y i) (sym t) ∙ sym (ap (λ (W : Test). W i) e) ∙ f

  pub both_in : Z ≡ both X Y → X i ≡ true → Y i ≡ true → Z i ≡ true
  both_in e t u = ap (λ (W : Test). W i) e ∙ ap (λ c. c && Y i) t ∙ u

  pub except-at : Z ≡ except X Y → Z i ≡ true → (X i ≡ true) × (Y i ≡ false)
  except-at e t = and_not (X i) (Y i) (sym (ap (λ (W : Test). W i) e) ∙ t)

  pub except-out : Z ≡ except X Y → Z i ≡ false → (Y i ≡ true) ⊎ (X i ≡ false)
  except-out e f = not_and (X i) (Y i) (sym (ap (λ (W : Test). W i) e) ∙ f)

  pub either-at : Z ≡ either X Y → Z i ≡ true → (X i ≡ true) ⊎ (Y i ≡ true)
  either-at e t = either_true (X i) (Y i) (sym (ap (λ (W : Test). W i) e) ∙ t)

  pub either_left : Z ≡ either X Y → X i ≡ true → Z i ≡ true
  either_left e t = ap (λ (W : Test). W i) e ∙ left_true (X i) (Y i) t

  pub either-right : Z ≡ either X Y → Y i ≡ true → Z i ≡ true
  either-right e t = ap (λ (W : Test). W i) e ∙ right_true (X i) (Y i) t

-- what is left of a set without t
module _ (X : Test) (t : ℕ) {Z : Test} (i : ℕ) where
  pub drop_at : Z ≡ without_member t X → Z i ≡ true → (X i ≡ true) × (i ≢ t)
  drop_at e h = let w = and_not (X i) (eqb i t) (sym (ap (λ (W : Test). W i) e) ∙ h) in (w.0, eqb-false i t w.1)

  pub drop-out : Z ≡ without_member t X → Z i ≡ false → (i ≡ t) ⊎ (X i ≡ false)
  drop-out e h = elim (not_and (X i) (eqb i t) (sym (ap (λ (W : Test). W i) e) ∙ h)) [ inl c ↦ inl (eqb-true i t c) | inr f ↦ inr f ]

pub no_members : {m : ℕ} → m ≡ 0 → (k : ℕ) → member m k ≡ false
no_members e k = ap (λ (n : ℕ). member n k) e ∙ member-none k

pub not_zero : {m : ℕ} (k : ℕ) → member m k ≡ true → 0 < m
not_zero {m} k t = elim (ℕ_discrete m 0) [ yes e ↦ absurd (neither t (no_members e k)) | no o ↦ omega arith ]

not_zero_test : (v : ℕ) → v ≢ 0 → not (eqb v 0) ≡ true
not_zero_test v n = ap not (ne_eqb v 0 n)

zero_test : (v : ℕ) → v ≡ 0 → not (eqb v 0) ≡ false
zero_test v e = ap not (eq-eqb v 0 e)

without_cases : (a b : Bool) → (a && not b) ≡ cond b false a
without_cases true true = refl
without_cases true false = refl
without_cases false true = refl
without_cases false false = refl

with_cases : (a b : Bool) → (b || a) ≡ cond b true a
with_cases a true = refl
with_cases a false = refl

-- the two ways of putting k
module _ (X : Test) (k v : ℕ) {Z : Test} where
  pub put_none : v ≡ 0 → Z ≡ without_member k X → Z ≡ with_nonzero k v X
  put_none z e = e ∙ fun_ext (λ i. without_cases (X i) (eqb i k) ∙ ap (λ b. cond (eqb i k) b (X i)) (sym (zero_test v z)))

  pub put_some : v ≢ 0 → Z ≡ with_member k X → Z ≡ with_nonzero k v X
  put_some n e = e ∙ fun_ext (λ i. with_cases (X i) (eqb i k) ∙ ap (λ b. cond (eqb i k) b (X i)) (sym (not_zero_test v n)))

  pub put_here : (i : ℕ) → Z ≡ with_nonzero k v X → i ≡ k → Z i ≡ not (eqb v 0)
  put_here i e c = ap (λ (W : Test). W i) e ∙ ap (λ b. cond b (not (eqb v 0)) (X i)) (eq-eqb i k c)

  pub put_there : (i : ℕ) → Z ≡ with_nonzero k v X → i ≢ k → Z i ≡ X i
  put_there i e o = ap (λ (W : Test). W i) e ∙ ap (λ b. cond b (not (eqb v 0)) (X i)) (ne_eqb i k o)

-- the number at one place changes
pub mask_put : {n k v m : ℕ} (m' : ℕ) {f g : ℕ → ℕ} → MaskOf n f m → k < n → g k ≡ v → ((i : ℕ) → i ≢ k → g i ≡ f i) → member m' ≡ with_nonzero k v (member m) → MaskOf n g m'
mask_put {n} {k} {v} {m} m' {f} {g} s h c o e = record {
  there = λ i l d. elim (ℕ_discrete i k) [
    | yes w ↦ put_here (member m) k v i e w ∙ not_zero_test v (λ z. d (ap g w ∙ c ∙ z))
    | no w ↦ put_there (member m) k v i e w ∙ s.there i l (λ z. d (o i w ∙ z))
  ];
  below = λ i t. elim (ℕ_discrete i k) [ yes w ↦ omega arith | no w ↦ s.below i (sym (put_there (member m) k v i e w) ∙ t) ];
  some = λ i t. elim (ℕ_discrete i k) [
    | yes w ↦ λ z. neither (sym (put_here (member m) k v i e w) ∙ t) (zero_test v (sym c ∙ ap g (sym w) ∙ z))
    | no w ↦ λ z. s.some i (sym (put_there (member m) k v i e w) ∙ t) (sym (o i w) ∙ z)
  ];
}

-- the places that pass a test for not being 0
pub mask_of_part : {n m : ℕ} {f : ℕ → ℕ} → member m ≡ part n (λ i. nonzero (f i)) → MaskOf n f m
mask_of_part {n} {m} {f} e = record {
  there = λ i l d. at i ∙ ap (λ b. b && nonzero (f i)) (lt-ltb i n l) ∙ not_zero_test (f i) d;
  below = λ i t. ltb-true i n (both_true (ltb i n) (nonzero (f i)) (sym (at i) ∙ t)).0;
  some = λ i t z. neither (both_true (ltb i n) (nonzero (f i)) (sym (at i) ∙ t)).1 (zero_test (f i) z);
}
  where
    at : (i : ℕ) → member m i ≡ (ltb i n && nonzero (f i))
    at i = ap (λ (X : Test). X i) e

mask-same : {n m m' : ℕ} {f g : ℕ → ℕ} → ((i : ℕ) → g i ≡ f i) → m' ≡ m → MaskOf n f m → MaskOf n g m'
mask-same {n} {m} {m'} {f} {g} o e s = subst⁻¹ (λ (m : ℕ). MaskOf n g m) e (record {
  there = λ i l d. s.there i l (λ z. d (o i ∙ z));
  below = s.below;
  some = λ i t z. s.some i t (sym (o i) ∙ z);
})

-- a number elsewhere is 0 in all places
pub mask-zero : {n m : ℕ} {f : ℕ → ℕ} → ((i : ℕ) → i < n → f i ≡ 0) → m ≡ 0 → MaskOf n f m
mask-zero z e = record {
  there = λ i l d. absurd (d (z i l));
  below = λ i t. absurd (neither t (no_members e i));
  some = λ i t. absurd (neither t (no_members e i));
}

-- one cell changes, and its column's senders with it
module _ {p q : ℕ} {x x' senders senders' : List ℕ} {i j : ℕ} (w : q ≤ most_states) (hi : i < p) (hj : j < q)
    (row : (k l : ℕ) → l < most_states → i ≢ k → cell x' k l ≡ cell x k l) (column : (k l : ℕ) → l < most_states → j ≢ l → cell x' k l ≡ cell x k l) where
  pub used-kept : Used p q x senders → Noted x' senders senders' i j → Used p q x' senders'
  used-kept u n = record {
    column = λ l h. elim (ℕ_discrete l j) [
      | yes c ↦ subst⁻¹ (λ (l : ℕ). MaskOf p (λ k. cell x' k l) (row_of senders' l)) c (mask_put (row_of senders' j) (u.column j hj) hi refl (λ k o. row k j (omega arith) (λ e. o (sym e))) n.here)
      | no o ↦ mask-same (λ k. column k l (omega arith) (λ e. o (sym e))) (n.other l o) (u.column l h)
    ];
    none = λ l h. n.other l (λ c. omega arith) ∙ u.none l h;
  }

pub used_adds : {p q : ℕ} {x x' senders senders' : List ℕ} {i j d : ℕ} → q ≤ most_states → i < p → j < q → Adds x x' i j d → Used p q x senders → Noted x' senders senders' i j → Used p q x' senders'
used_adds w hi hj a = used-kept w hi hj (adds_row a) (adds_column a)

pub used_takes : {p q : ℕ} {x x' senders senders' : List ℕ} {i j d : ℕ} → q ≤ most_states → i < p → j < q → Adds x' x i j d → Used p q x senders → Noted x' senders senders' i j → Used p q x' senders'
used_takes w hi hj a = used-kept w hi hj (λ k l h o. sym (adds_row a k l h o)) (λ k l h o. sym (adds_column a k l h o))

-- a cell and its column's senders are written: g is what the column had, m what it has now
pub noted : {x : List ℕ} (senders senders' : List ℕ) (g m : Set) {i j v : ℕ} → j < height senders → cell x i j ≡ v → mask g ≡ row_of senders j
    → member (mask m) ≡ with_nonzero i v (member (mask g)) → senders' ≡ put_row senders j m → Noted x senders senders' i j
noted {x} senders senders' g m {i} {j} {v} h e eg c eu = record {
  here = ap (λ (u : List ℕ). member (row_of u j)) eu ∙ ap member (row_put senders j m h) ∙ c ∙ ap (λ (n : ℕ). with_nonzero i v (member n)) eg
      ∙ ap (λ (n : ℕ). with_nonzero i n (member (row_of senders j))) (sym e);
  other = λ k o. ap (λ (u : List ℕ). row_of u k) eu ∙ row_put_other senders j k m o;
}

-- a sender is a row, and has a column
pub sender-column : {p q : ℕ} {x senders : List ℕ} → Used p q x senders → (i j : ℕ) → holds senders j i ≡ true → j < q
sender-column {q = q} u i j m = ⊎_elim (λ l. l) (λ l. absurd (neither m (no_members (u.none j l) i))) (below_or_not j q)

pub sender-row : {p q : ℕ} {x senders : List ℕ} → Used p q x senders → (i j : ℕ) → holds senders j i ≡ true → i < p
sender-row u i j m = (u.column j (sender-column u i j m)).below i m
