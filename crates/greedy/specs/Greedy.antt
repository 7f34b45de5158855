-- The greedy start: row by row and column by column, a related pair gets the least of what its row and its column have left.
-- Assumes nothing.
use Rattle.std.specs.Prelude.{◌≡◌, List, ◌≢◌, ℕ, ◌-◌, ◌<◌, min, get_or}
use Rattle.simulation.specs.Limits.{most_states}
use Rattle.simulation.specs.Sum.{when}
use Rattle.relation.specs.Related.{holds}
use Rattle.matrix.specs.Matrix.{cell, AddsAt, Adds, row_sum, column_sum}
use Rattle.matrix.specs.Masks.{Noted}
use Rattle.matrix.specs.Flow.{Partial}

-- s is what each row has to send, d what each column has to take; before i and j come the columns before j in row i and the rows before i in column j
pub record Greedy (p q : ℕ) (rel : List ℕ) (s d : ℕ → ℕ) (x : List ℕ) : Type 0 where
  pub each : (i j : ℕ) → i < p → j < q → cell x i j ≡ when (holds rel i j) (min (s i - row_sum j x i) (d j - column_sum i x j))

-- as much as row i has left and column j can take is sent
pub record CellFilled (i j : ℕ) (F G : Partial) : Type 0 where
  pub added : Adds F.amounts G.amounts i j (min (get_or F.supply i 0) (get_or F.demand j 0))
  pub noted : Noted G.amounts F.senders G.senders i j
  pub sent : AddsAt G.supply F.supply i (min (get_or F.supply i 0) (get_or F.demand j 0))
  pub taken : AddsAt G.demand F.demand j (min (get_or F.supply i 0) (get_or F.demand j 0))

-- one row of it, with what was left before the row in a and b; the other rows stay
pub record RowFilled (q i : ℕ) (rel a b x x' : List ℕ) : Type 0 where
  pub each : (j : ℕ) → j < q → cell x' i j ≡ when (holds rel i j) (min (get_or a i 0 - row_sum j x' i) (get_or b j 0))
  pub others : (k j : ℕ) → k ≢ i → j < most_states → cell x' k j ≡ cell x k j
