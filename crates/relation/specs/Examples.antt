-- Rows of words, computed: a row that is read and one that is written, and some of the rows.
-- Assumes nothing.
use Rattle.std.specs.Prelude.{◌≡◌, refl, List, [], ◌∷◌, ℕ, ◌^◌}
use Rattle.set.specs.declared.Set.{Set}
use Rattle.relation.specs.Rows.{row_of, height, rows_in, put_words, put_row}

-- the states 0, 2 and 64
abbrev some : Set
some = record { words = 5 ∷ 1 ∷ [] }

-- state 0 is related to state 0, state 1 to state 127
abbrev rows : List ℕ
rows = 1 ∷ 0 ∷ 0 ∷ 2 ^ 63 ∷ []

abbrev three : List ℕ
three = 1 ∷ 2 ∷ 3 ∷ 4 ∷ 5 ∷ 6 ∷ []

pub rows_example : (height rows ≡ 2) × (row_of rows 0 ≡ 1) × (row_of rows 1 ≡ 2 ^ 127) × (put_row rows 1 some ≡ 1 ∷ 0 ∷ 5 ∷ 1 ∷ [])
unfolding row_of put_row
rows_example = (refl, refl, refl, refl)

-- three words from place 1 on, and none
pub put_example : (put_words 3 (9 ∷ 9 ∷ 9 ∷ 9 ∷ 9 ∷ []) 1 (λ i. i) ≡ 9 ∷ 0 ∷ 1 ∷ 2 ∷ 9 ∷ []) × (put_words 0 rows 1 (λ i. i) ≡ rows)
unfolding put_words
put_example = (refl, refl)

-- of three rows the one in the middle, the last two, and none
pub part_example : (rows_in 1 1 three ≡ 3 ∷ 4 ∷ []) × (rows_in 1 2 three ≡ 3 ∷ 4 ∷ 5 ∷ 6 ∷ []) × (rows_in 1 0 three ≡ [])
part_example = (refl, refl, refl)
