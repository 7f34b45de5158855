-- What the flow kernel is asked: two distributions, with weights ws and vs, and a relation between their positions.
-- A position of the first is a row, a position of the second a column.
-- Assumes nothing.
use Rattle.std.specs.Prelude.{Bool, List, ℕ, ◌≤◌, length, get_or}
use Rattle.simulation.specs.Limits.{most_pairs, most_states, most_total}
use Rattle.simulation.specs.Fit.{total}
use Rattle.relation.specs.Related.{holds}
use Rattle.relation.specs.Rows.{height}

-- at most most-states targets on each side, totals within their limit, a mask for each row and room for the amounts
pub record Given (ws vs rel x : List ℕ) : Type 0 where
  pub few_rows : length ws ≤ most_states
  pub few_columns : length vs ≤ most_states
  pub masks : length ws ≤ height rel
  pub cells : most_pairs ≤ length x
  pub total_ws : total ws ≤ most_total
  pub total_vs : total vs ≤ most_total

-- the target at place i of the one is related to that at place j of the other
abbrev pub joins : (rows ms ts : List ℕ) → ℕ → ℕ → Bool
joins rows ms ts i j = holds rows (get_or ms i 0) (get_or ts j 0)
