-- Targets by their positions, and the rows of a relation over them.
-- Assumes nothing.
use Rattle.std.specs.Prelude.{◌≡◌, List, ℕ, ◌+◌, ◌≤◌, ◌<◌, length, get_or}
use Rattle.simulation.specs.Limits.{most_states}
use Rattle.word.specs.Mask.{Test, member}
use Rattle.relation.specs.Related.{holds}

-- places of targets: few, and each a state below n
pub record Places (n : ℕ) (ts : List ℕ) : Type 0 where
  pub few : length ts ≤ most_states
  pub below : (j : ℕ) → j < length ts → get_or ts j 0 < n

-- they ascend strictly
abbrev pub Ascending : List ℕ → Type 0
Ascending ts = (i : ℕ) → i + 1 < length ts → get_or ts i 0 < get_or ts (i + 1) 0

-- a row by positions: the places of a list whose states the row has
abbrev pub row_at : ℕ → List ℕ → Test
row_at row ts j = member row (get_or ts j 0)

-- rel has the first n rows of a relation by positions: bit j of place i relates the i-th of ms to the j-th of ns
pub record Gathered (rows ms ns : List ℕ) (n : ℕ) (rel : List ℕ) : Type 0 where
  pub related_at : (i j : ℕ) → i < n → j < length ns → holds rel i j ≡ holds rows (get_or ms i 0) (get_or ns j 0)
