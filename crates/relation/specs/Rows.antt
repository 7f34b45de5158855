-- The rows of a relation, a set of states to a row, one after the other in a list of words.
-- Assumes nothing.
use Rattle.std.specs.Prelude.{List, ℕ, zero, suc, ◌+◌, ◌*◌, ◌/◌, ◌<◌, length, get_or, set, take, drop}
use Rattle.set.specs.Words.{words, as_number, word_of}
use Rattle.set.specs.declared.Set.{Set}

-- row s of a relation whose rows lie one after the other
unfoldable pub row_of : List ℕ → ℕ → ℕ
unfolding as_number
row_of rows s = as_number words (λ i. get_or rows (s * words + i) 0)

-- how many rows
abbrev pub height : List ℕ → ℕ
height rows = length rows / words

-- each state of a list has a row
abbrev pub HasRows : (rows ss : List ℕ) → Type 0
HasRows rows ss = (i : ℕ) → i < length ss → get_or ss i 0 < height rows

-- n rows from row a on
abbrev pub rows_in : (a n : ℕ) → List ℕ → List ℕ
rows_in a n rows = take (n * words) (drop (a * words) rows)

-- a list with n words from a place on written anew
unfoldable pub put_words : ℕ → List ℕ → ℕ → (ℕ → ℕ) → List ℕ
put_words zero l at word = l
put_words (suc n) l at word = set (put_words n l at word) (at + n) (word n)

-- the rows with a set in the place of row s
unfoldable pub put_row : List ℕ → ℕ → Set → List ℕ
unfolding put_words
put_row rows s x = put_words words rows (s * words) (word_of x)
