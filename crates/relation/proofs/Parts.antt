-- The rows of a part of a relation, read and written: those of the whole, counted from the row where the part begins.
-- Assumes nothing.
use mathlib.Core.Path.{◌≡◌, refl, ap, ◌∙◌}
use mathlib.Core.List.{List}
use Prim.Native.Nat.{ℕ, zero, suc, ◌+◌, ◌-◌, ◌*◌, ◌≤◌, ◌<◌}
use native.Mathlib.Omega.{arith}
use lib.ListN.{get_or, set, take, drop, length-take, length-drop, get_or-eq_default}
use lib.Seq.{get_or-take, get_or-drop, take-set-le, take-set-lt, drop-set-lt, drop-set-add}
use Rattle.set.specs.Words.{words, word_of}
use Rattle.relation.specs.Rows.{row_of, height, rows_in, put_words, put_row}
use Rattle.set.specs.declared.Set.{Set}
use Rattle.set.proofs.Words.{equation, number_ext, number-none}

-- words written into a list of which only the first k, or all after the first k, are wanted
module _ (k : ℕ) (l : List ℕ) (at : ℕ) (f : ℕ → ℕ) where
  take_words : (n : ℕ) → at + n ≤ k → take k (put_words n l at f) ≡ put_words n (take k l) at f
  unfolding put_words
  take_words zero le = refl
  take_words (suc n) le = take-set-lt k (put_words n l at f) (at + n) (f n) (omega arith) ∙ ap (λ m. set m (at + n) (f n)) (take_words n (omega arith))

  take-words-after : (n : ℕ) → k ≤ at → take k (put_words n l at f) ≡ take k l
  unfolding put_words
  take-words-after zero le = refl
  take-words-after (suc n) le = take-set-le k (put_words n l at f) (at + n) (f n) (omega arith) ∙ take-words-after n le

  drop-words : (n : ℕ) → drop k (put_words n l (k + at) f) ≡ put_words n (drop k l) at f
  unfolding put_words
  drop-words zero = refl
  drop-words (suc n) =
      ap (λ (i : ℕ). drop k (set (put_words n l (k + at) f) i (f n))) (equation (k + at + n) (k + (at + n)) (omega arith))
      ∙ drop-set-add k (put_words n l (k + at) f) (at + n) (f n) ∙ ap (λ m. set m (at + n) (f n)) (drop-words n)

  drop-words-before : (n : ℕ) → at + n ≤ k → drop k (put_words n l at f) ≡ drop k l
  unfolding put_words
  drop-words-before zero le = refl
  drop-words-before (suc n) le = drop-set-lt k (put_words n l at f) (at + n) (f n) (omega arith) ∙ drop-words-before n (omega arith)

module _ (a n : ℕ) (l : List ℕ) where
  pub part-height : a + n ≤ height l → height (rows_in a n l) ≡ n
  part-height room = simp (length-take, length-drop) (omega arith)

  pub part-row : (s : ℕ) → s < n → row_of (rows_in a n l) s ≡ row_of l (a + s)
  unfolding row_of
  part-row s lt =
      number_ext words (λ i. get_or (rows_in a n l) (s * words + i) 0) (λ i. get_or l ((a + s) * words + i) 0)
      (λ i li. get_or-take (n * words) (drop (a * words) l) (s * words + i) 0 (omega arith) ∙ get_or-drop (a * words) l (s * words + i) 0
      ∙ ap (λ (k : ℕ). get_or l k 0) (equation (a * words + (s * words + i)) ((a + s) * words + i) (omega arith)))

  -- no row past the part
  pub part_past : (s : ℕ) → n ≤ s → row_of (rows_in a n l) s ≡ 0
  unfolding row_of
  part_past s le =
      number-none words (λ i. get_or (rows_in a n l) (s * words + i) 0)
      (λ i li. get_or-eq_default (rows_in a n l) 0 {n = s * words + i} (simp length-take (omega arith)))

  pub part_put : (s : ℕ) (x : Set) → s < n → rows_in a n (put_row l (a + s) x) ≡ put_row (rows_in a n l) s x
  unfolding put_row
  part_put s x lt =
      ap (λ (k : ℕ). rows_in a n (put_words words l k (word_of x))) (equation ((a + s) * words) (a * words + s * words) (omega arith))
      ∙ ap (take (n * words)) (drop-words (a * words) l (s * words) (word_of x) words)
      ∙ take_words (n * words) (drop (a * words) l) (s * words) (word_of x) words (omega arith)

  -- a row written outside of the part
  pub part_put_before : (s : ℕ) (x : Set) → s < a → rows_in a n (put_row l s x) ≡ rows_in a n l
  unfolding put_row
  part_put_before s x lt = ap (take (n * words)) (drop-words-before (a * words) l (s * words) (word_of x) words (omega arith))

  pub part_put_after : (s : ℕ) (x : Set) → a + n ≤ s → rows_in a n (put_row l s x) ≡ rows_in a n l
  unfolding put_row
  part_put_after s x le =
      ap (λ (k : ℕ). rows_in a n (put_words words l k (word_of x))) (equation (s * words) (a * words + (s - a) * words) (omega arith))
      ∙ ap (take (n * words)) (drop-words (a * words) l ((s - a) * words) (word_of x) words)
      ∙ take-words-after (n * words) (drop (a * words) l) ((s - a) * words) (word_of x) words (omega arith)
