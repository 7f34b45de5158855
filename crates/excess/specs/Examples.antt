-- Sets as numbers, computed: subsets, what a set and its subsets have, and the set of some places.
-- Assumes nothing.
use Rattle.std.specs.Prelude.{◌≡◌, refl, true, false, not, List, [], ◌∷◌, map, ℕ, eqb}
use Rattle.simulation.specs.Sum.{sum}
use Rattle.word.specs.Mask.{member}
use Rattle.excess.specs.Excess.{within, under, parts, set_of}

-- {0} in {0, 1}, {1} not in {0}, {0, 3} in all, the empty set in itself
pub within_example : (within 1 3 ≡ true) × (within 2 1 ≡ false) × (within 9 15 ≡ true) × (within 0 0 ≡ true)
unfolding within member
within_example = (refl, refl, refl, refl)

-- the empty set has 1, {0} 2, {1} 4, {0, 1} 8, {2} 16
abbrev sums : List ℕ
sums = 1 ∷ 2 ∷ 4 ∷ 8 ∷ 16 ∷ []

pub under_example : map (under sums) (0 ∷ 1 ∷ 2 ∷ 3 ∷ 4 ∷ 5 ∷ 15 ∷ []) ≡ 1 ∷ 3 ∷ 5 ∷ 15 ∷ 17 ∷ 19 ∷ 31 ∷ []
unfolding under member
under_example = refl

-- the amounts of the places 0 and 3; of three places all but the second
pub places_example : (parts (1 ∷ 10 ∷ 100 ∷ 1000 ∷ []) 9 ≡ 1001) × (set_of 3 (λ i. not (eqb i 1)) ≡ 5)
unfolding set_of member sum
places_example = (refl, refl)
