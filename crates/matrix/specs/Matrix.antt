-- What one change of a matrix, held in rows of most-states, does to it, and the sums of its rows and columns.
-- Assumes nothing.
use Rattle.std.specs.Prelude.{◌≡◌, List, ◌⊎◌, ◌≢◌, ℕ, ◌+◌, ◌*◌, ◌≤◌, ◌<◌, eqb, get_or}
use Rattle.simulation.specs.Limits.{most_states}
use Rattle.simulation.specs.Sum.{sum, when}

-- a matrix in a list, in rows of most-states
abbrev pub cell : List ℕ → ℕ → ℕ → ℕ
cell x i j = get_or x (i * most_states + j) 0

-- y is x but for the cells of the first p rows and q columns
pub record Outside (p q : ℕ) (x y : List ℕ) : Type 0 where
  pub rows : (i j : ℕ) → p ≤ i → j < most_states → cell y i j ≡ cell x i j
  pub columns : (i j : ℕ) → q ≤ j → j < most_states → cell y i j ≡ cell x i j

-- d where n is k, else 0
unfoldable pub delta : ℕ → ℕ → ℕ → ℕ
delta k n d = when (eqb k n) d

unfoldable pub row_sum : ℕ → List ℕ → ℕ → ℕ
unfolding sum
row_sum q x i = sum q (λ j. cell x i j)

unfoldable pub column_sum : ℕ → List ℕ → ℕ → ℕ
unfolding sum
column_sum p x j = sum p (λ i. cell x i j)

-- y is x with v in row i, column j
pub record Put (x y : List ℕ) (i j v : ℕ) : Type 0 where
  pub here : cell y i j ≡ v
  pub others : (i' j' : ℕ) → j' < most_states → (i' ≢ i) ⊎ (j' ≢ j) → cell y i' j' ≡ cell x i' j'

-- y is x with d more at place k
pub record AddsAt (x y : List ℕ) (k d : ℕ) : Type 0 where
  pub more : (l : ℕ) → get_or y l 0 ≡ get_or x l 0 + delta k l d

-- y is x with d more in row i, column j
pub record Adds (x y : List ℕ) (i j d : ℕ) : Type 0 where
  pub more : (i' j' : ℕ) → j' < most_states → cell y i' j' ≡ cell x i' j' + delta i i' (delta j j' d)
