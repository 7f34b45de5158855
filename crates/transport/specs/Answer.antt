-- What the flow kernel answers (01, "Keeping, ranking, sharing out").
-- m is a distribution with weights ws and n one with weights vs; a position of m is a row, a position of n a column.
-- Assumes nothing.
use Rattle.std.specs.Prelude.{◌≡◌, false, List, ◌≢◌, ℕ, ◌+◌, ◌*◌, ◌≤◌, ◌<◌, T, eqb, length}
use Rattle.simulation.specs.Sum.{sum}
use Rattle.simulation.specs.Fit.{weight, total, Shares, largest_gain, fits?, cut}
use Rattle.word.specs.Mask.{member}
use Rattle.relation.specs.Related.{holds}
use Rattle.matrix.specs.Matrix.{cell, Outside}

-- x, at first x₀, holds a flow that sends the most: all but the largest excess. The mask r is 01's smallest of the sets with the largest excess, empty exactly if m fits n
pub record MaximumFlow (ws vs rel x₀ x : List ℕ) (r : ℕ) : Type 0 where
  pub support : (i j : ℕ) → i < length ws → j < length vs → cell x i j ≢ 0 → T (holds rel i j)
  pub sent : (i : ℕ) → i < length ws → sum (length vs) (λ j. cell x i j) ≤ weight ws i * total vs
  pub taken : (j : ℕ) → j < length vs → sum (length ws) (λ i. cell x i j) ≤ weight vs j * total ws
  pub most : sum (length ws) (λ i. sum (length vs) (λ j. cell x i j)) + largest_gain (holds rel) ws vs ≡ total ws * total vs + total ws * total vs
  pub fit : fits? (holds rel) ws vs ≡ eqb r 0
  pub shares : r ≡ 0 → Shares (λ i j. T (holds rel i j)) ws vs (cell x)
  pub smallest : (i : ℕ) → i < length ws → cut (holds rel) ws vs i ≡ member r i
  pub no_others : (i : ℕ) → length ws ≤ i → member r i ≡ false
  pub outside : Outside (length ws) (length vs) x₀ x
  pub same_length : length x ≡ length x₀
