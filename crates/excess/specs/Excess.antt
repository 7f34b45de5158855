-- Sets of at most four places as numbers, and sums by sets.
-- Assumes nothing.
use Rattle.std.specs.Prelude.{◌≡◌, Bool, true, false, not, ◌&&◌, List, ℕ, zero, suc, ◌+◌, ◌-◌, ◌*◌, ◌^◌, ◌≤◌, ◌<◌, eqb, length, get_or}
use Rattle.simulation.specs.Sum.{sum, any, when}
use Rattle.simulation.specs.Fit.{total, weight_of}
use Rattle.word.specs.Mask.{member}

-- the most places, and how many sets they have
abbrev pub few : ℕ
few = 4

abbrev pub set_count : ℕ
set_count = 2 ^ few

-- each member of the one is a member of the other
unfoldable pub within : ℕ → ℕ → Bool
unfolding any
within a k = not (any few (λ i. member a i && not (member k i)))

-- what a set and its subsets have together
unfoldable pub under : List ℕ → ℕ → ℕ
unfolding sum within
under sums k = sum set_count (λ a. when (within a k) (get_or sums a 0))

-- what a set has, and what the set without place i has if i is a member
abbrev pub joined : ℕ → List ℕ → ℕ → ℕ
joined i sums k = get_or sums k 0 + when (member k i) (get_or sums (k - 2 ^ i) 0)

-- each set has this now
pub record Joined (i : ℕ) (old new : List ℕ) : Type 0 where
  pub each : (k : ℕ) → k < set_count → get_or new k 0 ≡ joined i old k

-- each set has now what it and its subsets had
pub record Summed (old new : List ℕ) : Type 0 where
  pub each : (k : ℕ) → k < set_count → get_or new k 0 ≡ under old k

-- what the members of a set have of some amounts, one for each place
abbrev pub parts : (shares : List ℕ) → ℕ → ℕ
parts shares k = sum few (λ i. when (member k i) (get_or shares i 0))

-- r tells whether no set has more than what is given for it
pub record AtMost (sums : List ℕ) (most : ℕ → ℕ) (r : Bool) : Type 0 where
  pub yes : r ≡ true → (k : ℕ) → k < set_count → get_or sums k 0 ≤ most k
  pub no : r ≡ false → (k : ℕ) × (k < set_count) × (most k < get_or sums k 0)

-- r tells whether each set of places weighs, times t, what it and its subsets have
pub record Carries (sums ws : List ℕ) (t : ℕ) (r : Bool) : Type 0 where
  pub yes : r ≡ true → (k : ℕ) → k < set_count → under sums k ≤ t * weight_of ws (member k)
  pub no : r ≡ false → (k : ℕ) × (k < set_count) × (t * weight_of ws (member k) < under sums k)

-- the set of the places below n that pass, as a number
unfoldable pub set_of : ℕ → (ℕ → Bool) → ℕ
set_of zero X = 0
set_of (suc n) X = set_of n (λ i. X (suc i)) * 2 + when (X 0) 1

-- the set of the places below n that are related to j
abbrev pub related_to : ℕ → (ℕ → ℕ → Bool) → ℕ → ℕ
related_to n R j = set_of n (λ i. R i j)

-- room for the sums, by sets, of some weights, each times t; so far there are none
pub record NoSums (ws : List ℕ) (t : ℕ) (sums : List ℕ) : Type 0 where
  pub fits : total ws * t < 2 ^ 32
  pub all : length sums ≡ set_count
  pub none : (i : ℕ) → get_or sums i 0 ≡ 0

-- the sums of f over the places below n, by the set of each
pub record BySets (n : ℕ) (set f : ℕ → ℕ) (sums : List ℕ) : Type 0 where
  pub all : length sums ≡ set_count
  pub at : (a : ℕ) → a < set_count → get_or sums a 0 ≡ sum n (λ j. when (eqb (set j) a) (f j))
