-- Sets of words, computed: members in either word, and what a walk has left.
-- Assumes nothing.
use Rattle.std.specs.Prelude.{◌≡◌, refl, true, false, [], ◌∷◌, map, ◌+◌, ◌^◌}
use Rattle.set.specs.declared.Set.{Set}
use Rattle.word.specs.Mask.{member}
use Rattle.set.specs.Words.{words, mask, rest, after}

-- the states 0, 2 and 64
abbrev some : Set
some = record { words = 5 ∷ 1 ∷ [] }

pub set_example : (words ≡ 2) × (mask some ≡ 2 ^ 64 + 5) × (map (member (mask some)) (0 ∷ 1 ∷ 2 ∷ 63 ∷ 64 ∷ 65 ∷ []) ≡ true ∷ false ∷ true ∷ false ∷ true ∷ false ∷ [])
unfolding mask member
set_example = (refl, refl, refl)

-- before the second word, within the first after state 0, and at the end
pub walk_example : (after 1 some ≡ 2 ^ 64) × (rest 0 4 some ≡ 2 ^ 64 + 4) × (after words some ≡ 0)
unfolding rest after
walk_example = (refl, refl, refl)
