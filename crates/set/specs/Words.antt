-- Words of 64 bits as one number, for any number of words, and with it the sets of states.
-- Assumes nothing.
use Rattle.std.specs.Prelude.{ℕ, zero, suc, ◌+◌, ◌*◌, ◌/◌, ◌%◌, ◌^◌, get_or, cond, eqb, ltb}
use Rattle.simulation.specs.Limits.{most_states}
use Rattle.word.specs.Mask.{word_bits}
use Rattle.set.specs.declared.Set.{Set}

-- so many words have a bit for each state of a table
abbrev pub words : ℕ
words = most_states / word_bits

-- n words, lowest first: digit t of the number is bit t % 64 of word t / 64
unfoldable pub as_number : ℕ → (ℕ → ℕ) → ℕ
as_number zero word = 0
as_number (suc n) word = as_number n (λ i. word (suc i)) * 2 ^ word_bits + word 0 % 2 ^ word_bits

abbrev pub word_of : Set → ℕ → ℕ
word_of s i = get_or s.words i 0

-- a set of states: the digits that are one are its members
unfoldable pub mask : Set → ℕ
unfolding as_number
mask s = as_number words (word_of s)

-- what a walk word by word has left: `left` in word w, and the words after it
unfoldable pub rest : ℕ → ℕ → Set → ℕ
unfolding as_number
rest w left s = as_number words (λ i. cond (ltb i w) 0 (cond (eqb i w) left (word_of s i)))

-- what it has left before word w
unfoldable pub after : ℕ → Set → ℕ
unfolding as_number
after w s = as_number words (λ i. cond (ltb i w) 0 (word_of s i))
