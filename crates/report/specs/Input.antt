-- Two tables in the bytes of standard input: each after its length of two bytes, low byte first. What follows the second is ignored.
-- Assumes nothing.
use Rattle.std.specs.Prelude.{List, [], ◌∷◌, ℕ, ◌+◌, ◌*◌, take, drop}

-- the length stated at the start of bytes, 0 where it is cut short
abbrev pub stated_length : List ℕ → ℕ
stated_length [] = 0
stated_length (low ∷ []) = 0
stated_length (low ∷ high ∷ rest) = low + 256 * high

-- the table after its length; bytes that end early make it shorter
abbrev pub first_of_input : List ℕ → List ℕ
first_of_input s = take (stated_length s) (drop 2 s)

-- the same in what follows the first table
abbrev pub second_of_input : List ℕ → List ℕ
second_of_input s = first_of_input (drop (2 + stated_length s) s)

-- so many bytes hold any two tables with their lengths
abbrev pub most_input : ℕ
most_input = 2 * (2 + 65535)
