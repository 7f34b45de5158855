-- Lists that were written over, computed: from the start on, and in a part that was lent.
-- Assumes nothing.
use Rattle.std.specs.Prelude.{◌≡◌, refl, List, [], ◌∷◌, ℕ}
use Rattle.buffer.specs.Buffer.{over, with_part}

abbrev four : List ℕ
four = 1 ∷ 2 ∷ 3 ∷ 4 ∷ []

pub over_example : (over (8 ∷ 9 ∷ []) four ≡ 8 ∷ 9 ∷ 3 ∷ 4 ∷ []) × (over [] four ≡ four)
over_example = (refl, refl)

-- two from the middle, and the first
pub lent_example : (with_part 1 2 (8 ∷ 9 ∷ []) four ≡ 1 ∷ 8 ∷ 9 ∷ 4 ∷ []) × (with_part 0 1 (9 ∷ []) four ≡ 9 ∷ 2 ∷ 3 ∷ 4 ∷ [])
lent_example = (refl, refl)
