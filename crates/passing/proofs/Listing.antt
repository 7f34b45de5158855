-- The pairs that a tree meets, listed from its root down.
-- Assumes nothing.
use mathlib.Core.Path.{◌≡◌, refl, sym, ap, ap₂, ◌∙◌, subst}
use mathlib.Core.Bool.{Bool, true, false, ◌&&◌, ◌||◌}
use mathlib.Core.List.{List}
use Prim.Native.Nat.{ℕ, zero, suc, ◌+◌, ◌/◌, ◌≤◌, ◌<◌, zero-le}
use native.Mathlib.Numerals.{add-one}
use native.Mathlib.Omega.{arith}
use native.Mathlib.Decide.{ℕ_discrete}
use lib.Dec.{eqb}
use lib.ListN.{length, get_or}
use borrow.Author.Tests.{eq-eqb, ne_eqb}
use Rattle.simulation.specs.Sum.{sum, any, when}
use Rattle.simulation.proofs.Finite.Sums.{sum_ext, sum_one, sum-zero, sum_swap, sum_pick, sum_strict, one-most}
use Rattle.simulation.proofs.Finite.Tests.{any_none}
use Rattle.word.specs.Mask.{Test, member, with_member, either}
use Rattle.set.specs.Words.{words, mask}
use Rattle.relation.specs.Rows.{row_of, height, put_row}
use Rattle.set.specs.declared.Set.{Set}
use Rattle.relation.proofs.RowLaws.{length_put, row_put, row_put_other}
use Rattle.choice.proofs.Choosing.{eqb_flip}
use Rattle.passing.specs.Passing.{ChildrenLent, ChildrenAdded}
use Rattle.counting.specs.Count.{child}

-- ---- the targets of a transition

any_next : (n : ℕ) (f : ℕ → Bool) → any (n + 1) f ≡ (f n || any n f)
unfolding any
any_next n f = ap (λ (k : ℕ). any k f) (add-one n)

or_join : (a b c : Bool) → (a || (b || c)) ≡ ((a || b) || c)
or_join true b c = refl
or_join false b c = refl

-- the pairs of the targets before i are added
pub record ChildrenLoop (targets sets todo₀ : List ℕ) (rows₀ : ℕ) (todo : List ℕ) (rows i : ℕ) : Type 0 where
  pub inside : i ≤ length targets
  pub same-todo : length todo ≡ length todo₀
  pub added : ChildrenAdded targets sets i todo₀ rows₀ todo rows

-- at first no pair is added
pub children_start : (targets sets todo : List ℕ) (rows : ℕ) → ChildrenLoop targets sets todo rows todo rows 0
children_start targets sets todo rows =
    record {
      inside = zero-le;
      same-todo = refl;
      added = record {
        listed = λ u v. sym (ap (λ b. b || member (row_of todo u) v) (any_none (child targets sets u v)));
        opened = λ u. sym (ap (λ b. b || member rows u) (any_none (λ i. eqb (get_or targets i 0) u)));
      };
    }

module _ {targets sets todo₀ : List ℕ} {rows₀ : ℕ} {todo : List ℕ} {rows i : ℕ} (g : ChildrenLent targets sets todo₀)
    (l : ChildrenLoop targets sets todo₀ rows₀ todo rows i) (lt : i < length targets) where
  abbrev s : ℕ
  s = get_or targets i 0

  -- the next target has a row, and its set too
  pub target_row : s < height todo
  target_row = omega (arith, g.low i lt, g.rows, ap (λ (n : ℕ). n / words) l.same-todo)

  pub set-row : i < height sets
  set-row = omega (arith, g.few, g.words)

  -- its pairs are added
  pub children_next : (joined : Set) {todo' : List ℕ} {rows' : ℕ} → todo' ≡ put_row todo s joined
      → member (mask joined) ≡ either (member (row_of sets i)) (member (row_of todo s))
      → member rows' ≡ with_member s (member rows) → ChildrenLoop targets sets todo₀ rows₀ todo' rows' (i + 1)
  children_next joined {todo'} {rows'} et ej ers =
      record {
        inside = omega arith;
        same-todo = ap length et ∙ length_put todo s joined ∙ l.same-todo;
        added = record {
          listed = λ u v.
              at u v (ℕ_discrete u s) ∙ ap (λ b. child targets sets u v i || b) (l.added.listed u v)
              ∙ or_join (child targets sets u v i) (any i (child targets sets u v)) (member (row_of todo₀ u) v)
              ∙ sym (ap (λ b. b || member (row_of todo₀ u) v) (any_next i (child targets sets u v)));
          opened = λ u.
              ap (λ (X : Test). X u) ers ∙ ap₂ ◌||◌ (eqb_flip u s) (l.added.opened u) ∙ or_join (eqb s u) (any i (λ k. eqb (get_or targets k 0) u)) (member rows₀ u)
              ∙ sym (ap (λ b. b || member rows₀ u) (any_next i (λ k. eqb (get_or targets k 0) u)));
        };
      }
    where
      at : (u v : ℕ) → Dec (u ≡ s) → member (row_of todo' u) v ≡ (child targets sets u v i || member (row_of todo u) v)
      at u v (yes p) =
          ap (λ (k : ℕ). member (row_of todo' k) v) p
          ∙ ap (λ (k : ℕ). member k v) (ap (λ (l : List ℕ). row_of l s) et ∙ row_put todo s joined target_row)
          ∙ ap (λ (X : Test). X v) ej
          ∙ ap₂ (λ b k. (b && member (row_of sets i) v) || member (row_of todo k) v) (sym (eq-eqb s u (sym p))) (sym p)
      at u v (no d) =
          ap (λ (k : ℕ). member k v) (ap (λ (l : List ℕ). row_of l u) et ∙ row_put_other todo s u joined d)
          ∙ ap (λ b. (b && member (row_of sets i) v) || member (row_of todo u) v) (sym (ne_eqb s u (λ k. d (sym k))))

-- after the last target the pairs of all are added
pub children_end : {targets sets todo₀ : List ℕ} {rows₀ : ℕ} {todo : List ℕ} {rows i : ℕ} → ChildrenLoop targets sets todo₀ rows₀ todo rows i → length targets ≤ i
    → ChildrenAdded targets sets (length targets) todo₀ rows₀ todo rows
children_end {targets} {sets} {todo₀} {rows₀} {todo} {rows} {i} l h =
    subst (λ (n : ℕ). ChildrenAdded targets sets n todo₀ rows₀ todo rows) (let e : i ≡ length targets = omega (arith, l.inside) in e) l.added

-- ---- numbers that are all different

-- one at most of a list of different numbers is v
once-sum : (n : ℕ) (f : ℕ → ℕ) (v : ℕ) → ((k l : ℕ) → k < l → l < n → f k ≡ f l → ⊥) → sum n (λ k. when (eqb (f k) v) 1) ≤ 1
unfolding sum
once-sum zero f v h = zero-le
once-sum (suc n) f v h = at (ℕ_discrete (f n) v) (once-sum n f v (λ k l a b. h k l a (omega arith)))
  where
    at : Dec (f n ≡ v) → sum n (λ k. when (eqb (f k) v) 1) ≤ 1 → when (eqb (f n) v) 1 + sum n (λ k. when (eqb (f k) v) 1) ≤ 1
    at (yes e) ih =
        let none : sum n (λ k. when (eqb (f k) v) 1) ≡ 0 =
        sum_ext n _ (λ k. 0) (λ k a. ap (λ b. when b 1) (ne_eqb (f k) v (λ q. h k n a (omega arith) (q ∙ sym e)))) ∙ sum-zero n in
        omega (arith, one-most (eqb (f n) v))
    at (no d) ih = omega (arith, ih, ap (λ b. when b 1) (ne_eqb (f n) v d))

-- so there are fewer than m, if all are below m and one number below m is none of them
pub fewer : (m n : ℕ) (f : ℕ → ℕ) (p : ℕ) → p < m → ((k : ℕ) → k < n → f k < m) → ((k l : ℕ) → k < l → l < n → f k ≡ f l → ⊥) → ((k : ℕ) → k < n → f k ≡ p → ⊥) → n < m
fewer m n f p b low once out =
    let count : ℕ → ℕ = λ v. sum n (λ k. when (eqb (f k) v) 1) in
    let none : count p ≡ 0 = sum_ext n _ (λ k. 0) (λ k a. ap (λ b. when b 1) (ne_eqb (f k) p (out k a))) ∙ sum-zero n in
    let all : sum m count ≡ n = sym (sum_swap n m (λ k v. when (eqb (f k) v) 1)) ∙ sum_ext n _ (λ k. 1) (λ k a. sum_pick m (f k) (λ v. 1) (low k a)) ∙ sum_one n in
    let less : sum m count < sum m (λ v. 1) = sum_strict m count (λ v. 1) (λ v _. once-sum n f v once) p b (omega (arith, none)) in
    omega (arith, all, less, sum_one m)
