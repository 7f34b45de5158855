-- Rows by positions, gathered place by place.
-- Assumes nothing.
use mathlib.Core.Path.{◌≡◌, sym, ap, ◌∙◌, subst, fun_ext}
use mathlib.Core.Bool.{Bool, false, not, ◌&&◌, and_comm}
use mathlib.Core.List.{List}
use mathlib.Core.Logic.{◌⊎◌, inl, inr, ⊎_elim}
use Prim.Native.Nat.{ℕ, zero, suc, ◌+◌, ◌-◌, ◌≤◌, ◌<◌}
use native.Mathlib.Nat.{add-zero, zero-add}
use native.Mathlib.Omega.{arith}
use borrow.Author.Tests.{lt-ltb}
use lib.Dec.{T, T_not, ltb, ltb→lt}
use lib.ListN.{length, get_or}
use Rattle.simulation.proofs.Finite.Tests.{true_or_not, is_false, last_or_below}
use Rattle.word.specs.Mask.{Test, member, part, both, up_to}
use Rattle.set.specs.Words.{mask}
use Rattle.relation.specs.Rows.{row_of, height, put_row}
use Rattle.set.specs.declared.Set.{Set}
use Rattle.relation.proofs.RowLaws.{row_put, row_put_other}
use Rattle.relation.specs.Related.{holds}
use Rattle.gather.specs.Places.{Ascending, row_at, Gathered}

pub gather_next : (rows ms ns rel : List ℕ) (i : ℕ) (x : Set) → i < height rel → member (mask x) ≡ part (length ns) (row_at (row_of rows (get_or ms i 0)) ns)
    → Gathered rows ms ns i rel → Gathered rows ms ns (i + 1) (put_row rel i x)
gather_next rows ms ns rel i x room e h =
    record {
      related_at = λ k j a b.
          ⊎_elim
          (λ (q : k ≡ i).
          subst (λ (k : ℕ). holds (put_row rel i x) k j ≡ holds rows (get_or ms k 0) (get_or ns j 0)) (sym q)
          (ap (λ (y : ℕ). member y j) (row_put rel i x room)
          ∙ ap (λ (X : Test). X j) e
          ∙ ap (λ (c : Bool). c && row_at (row_of rows (get_or ms i 0)) ns j) (lt-ltb j (length ns) b)))
          (λ (l : k < i). ap (λ (y : ℕ). member y j) (row_put_other rel i k x (λ q. omega arith)) ∙ h.related_at k j l b)
          (last_or_below k i (omega arith));
    }

-- targets that ascend strictly and end at their number less one are all states in order
module _ (ts : List ℕ) (up : Ascending ts) where
  -- two targets are at least as far apart as their places
  apart : (k i : ℕ) → i + k < length ts → get_or ts i 0 + k ≤ get_or ts (i + k) 0
  apart zero i h = omega (arith, ap (λ (n : ℕ). get_or ts n 0) (add-zero i))
  apart (suc k) i h =
      let next : i + k + 1 ≡ i + suc k = omega arith in
      omega (arith, apart k i (omega arith), up (i + k) (omega arith), ap (λ (n : ℕ). get_or ts n 0) next)

  dense_at : {n : ℕ} → n ≡ length ts → 0 < n → get_or ts (n - 1) 0 + 1 ≡ n → (i : ℕ) → i < n → get_or ts i 0 ≡ i
  dense_at {n} e pos last i h =
      let k : ℕ = n - 1 - i in
      let end : i + k ≡ n - 1 = omega arith in
      omega (arith, apart k i (omega arith), ap (λ (m : ℕ). get_or ts m 0) end, apart i 0 (omega arith), ap (λ (m : ℕ). get_or ts m 0) (zero-add i))

  pub dense_row : (row : ℕ) {n : ℕ} → n ≡ length ts → 0 < n → get_or ts (n - 1) 0 + 1 ≡ n → both (member row) (up_to n) ≡ part (length ts) (row_at row ts)
  dense_row row {n} e pos last = fun_ext (λ k. at k (true_or_not (ltb k n)) ∙ ap (λ (m : ℕ). part m (row_at row ts) k) e)
    where
      at : (k : ℕ) → T (ltb k n) ⊎ T (not (ltb k n)) → both (member row) (up_to n) k ≡ part n (row_at row ts) k
      at k (inl t) = and_comm (member row k) (ltb k n) ∙ ap (λ (m : ℕ). ltb k n && member row m) (sym (dense_at e pos last k (ltb→lt k n t)))
      at k (inr f) = let z : ltb k n ≡ false = is_false (ltb k n) (T_not (ltb k n) f) in rw z (and_comm (member row k) false)
