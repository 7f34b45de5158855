-- What the kernel starts from: supplies and demands, and zeros where the amounts go.
-- Assumes nothing.
use Rattle.std.specs.Prelude.{◌≡◌, List, ℕ, ◌+◌, ◌*◌, ◌<◌, length, get_or}
use Rattle.simulation.specs.Fit.{weight, total}
use Rattle.matrix.specs.Matrix.{cell, Outside, row_sum, column_sum}

-- the first n targets have to send their weight by the other side's total
pub record Supplies (ws : List ℕ) (other n : ℕ) (a : List ℕ) : Type 0 where
  pub supply : (i : ℕ) → i < n → get_or a i 0 ≡ weight ws i * other

-- y is x with zeros in the first q cells of the first p rows
pub record Cleared (p q : ℕ) (x y : List ℕ) : Type 0 where
  pub zero : (i j : ℕ) → i < p → j < q → cell y i j ≡ 0
  pub outside : Outside p q x y

-- nothing is sent yet
pub record Begun (ws vs x₀ x a b : List ℕ) : Type 0 where
  pub cleared : Cleared (length ws) (length vs) x₀ x
  pub supplies : Supplies ws (total vs) (length ws) a
  pub demands : Supplies vs (total ws) (length vs) b

-- what is sent and what is left make up what each target has to send or to take
pub record Balanced (ws vs x a b : List ℕ) : Type 0 where
  pub sent : (i : ℕ) → i < length ws → row_sum (length vs) x i + get_or a i 0 ≡ weight ws i * total vs
  pub taken : (j : ℕ) → j < length vs → column_sum (length ws) x j + get_or b j 0 ≡ weight vs j * total ws
