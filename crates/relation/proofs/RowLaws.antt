-- Rows of words, read and written.
-- Assumes nothing.
use mathlib.Core.Path.{◌≡◌, refl, sym, ap, ◌∙◌}
use mathlib.Core.List.{List, [], ◌∷◌}
use mathlib.Core.Logic.{◌≢◌}
use native.Mathlib.Decide.{ℕ_discrete}
use Prim.Native.Nat.{ℕ, zero, suc, ◌+◌, ◌*◌, ◌/◌, ◌%◌, ◌^◌, ◌≤◌, ◌<◌}
use native.Mathlib.Nat.{not-suc-le-zero}
use native.Mathlib.Omega.{arith}
use lib.ListN.{length, get_or, set, length-set}
use lib.Seq.{get_or-set_same, get_or-set_other}
use Rattle.word.specs.Mask.{member, word_bits}
use Rattle.simulation.specs.Limits.{most_states}
use Rattle.set.specs.Words.{words, word_of, mask}
use Rattle.relation.specs.Rows.{row_of, height, put_words, put_row}
use Rattle.set.specs.declared.Set.{Set}
use Rattle.set.proofs.Words.{equation, bit_at, number_lt, number_ext}
use Rattle.set.proofs.Sets.{of_words, two, place_of}

-- words written one after the other: each is found in its place, and every other place is as before
module _ (l : List ℕ) (at : ℕ) (f : ℕ → ℕ) where
  pub length-words : (n : ℕ) → length (put_words n l at f) ≡ length l
  unfolding put_words
  length-words zero = refl
  length-words (suc n) = length-set (put_words n l at f) (at + n) (f n) ∙ length-words n

  pub words-there : (n i : ℕ) → i < n → at + n ≤ length l → get_or (put_words n l at f) (at + i) 0 ≡ f i
  unfolding put_words
  words-there zero i lt room = absurd (not-suc-le-zero lt)
  words-there (suc n) i lt room = elim (ℕ_discrete i n) [
    | yes e ↦ ap (λ (k : ℕ). get_or (set (put_words n l at f) (at + n) (f n)) (at + k) 0) e
        ∙ get_or-set_same (put_words n l at f) (at + n) (f n) 0 (omega (arith, length-words n)) ∙ ap f (sym e)
    | no ne ↦ get_or-set_other (put_words n l at f) (at + n) (at + i) (f n) 0 (λ e. ne (omega arith)) ∙ words-there n i (omega (arith, ne)) (omega arith)
  ]

  pub words-other : (n k : ℕ) → ((i : ℕ) → i < n → k ≢ at + i) → get_or (put_words n l at f) k 0 ≡ get_or l k 0
  unfolding put_words
  words-other zero k out = refl
  words-other (suc n) k out =
      get_or-set_other (put_words n l at f) (at + n) k (f n) 0 (out n (omega arith)) ∙ words-other n k (λ i lt. out i (omega arith))

pub row_lt : (rows : List ℕ) (s : ℕ) → row_of rows s < 2 ^ most_states
unfolding row_of
row_lt rows s = number_lt words (λ i. get_or rows (s * words + i) 0)

pub row-bit : (rows : List ℕ) (s t : ℕ) → t < most_states → member (get_or rows (s * words + t / word_bits) 0) (t % word_bits) ≡ member (row_of rows s) t
unfolding row_of
row-bit rows s t lt =
    sym (bit_at words (λ i. get_or rows (s * words + i) 0) (t / word_bits) (t % word_bits) (omega arith) (omega arith)) ∙ ap (member (row_of rows s)) (place_of t)

pub row_get : (rows : List ℕ) (s : ℕ) → mask (of_words (get_or rows (s * words) 0 ∷ get_or rows (s * words + 1) 0 ∷ [])) ≡ row_of rows s
unfolding mask row_of
row_get rows s =
    number_ext words (word_of (of_words (get_or rows (s * words) 0 ∷ get_or rows (s * words + 1) 0 ∷ []))) (λ i. get_or rows (s * words + i) 0)
    (two (λ i. get_or (get_or rows (s * words) 0 ∷ get_or rows (s * words + 1) 0 ∷ []) i 0 ≡ get_or rows (s * words + i) 0)
    (ap (λ (k : ℕ). get_or rows k 0) (equation (s * words) (s * words + 0) (omega arith))) refl)

pub length_put : (rows : List ℕ) (s : ℕ) (x : Set) → length (put_row rows s x) ≡ length rows
unfolding put_row
length_put rows s x = length-words rows (s * words) (word_of x) words

pub row_put : (rows : List ℕ) (s : ℕ) (x : Set) → s < height rows → row_of (put_row rows s x) s ≡ mask x
unfolding mask row_of put_row
row_put rows s x lt =
    number_ext words (λ i. get_or (put_row rows s x) (s * words + i) 0) (word_of x)
    (λ i li. words-there rows (s * words) (word_of x) words i li (omega arith))

pub row_put_other : (rows : List ℕ) (s k : ℕ) (x : Set) → k ≢ s → row_of (put_row rows s x) k ≡ row_of rows k
unfolding row_of put_row
row_put_other rows s k x ne =
    number_ext words (λ i. get_or (put_row rows s x) (k * words + i) 0) (λ i. get_or rows (k * words + i) 0)
    (λ i li. words-other rows (s * words) (word_of x) words (k * words + i) (λ j lj e. ne (omega arith)))
