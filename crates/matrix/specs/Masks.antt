-- Masks of the places where a number is not 0.
-- Assumes nothing.
use Rattle.std.specs.Prelude.{◌≡◌, Bool, true, not, cond, List, ◌≢◌, ℕ, ◌≤◌, ◌<◌, eqb}
use Rattle.word.specs.Mask.{Test, member}
use Rattle.relation.specs.Rows.{row_of}
use Rattle.matrix.specs.Matrix.{cell}

abbrev pub nonzero : ℕ → Bool
nonzero v = not (eqb v 0)

-- X with k in it exactly if v is not 0
abbrev pub with_nonzero : ℕ → ℕ → Test → Test
with_nonzero k v X i = cond (eqb i k) (nonzero v) (X i)

-- the members of m are the places below n where f is not 0
pub record MaskOf (n : ℕ) (f : ℕ → ℕ) (m : ℕ) : Type 0 where
  pub there : (k : ℕ) → k < n → f k ≢ 0 → member m k ≡ true
  pub below : (k : ℕ) → member m k ≡ true → k < n
  pub some : (k : ℕ) → member m k ≡ true → f k ≢ 0

-- the senders of a column are the rows with an amount in it
pub record Used (p q : ℕ) (x senders : List ℕ) : Type 0 where
  pub column : (j : ℕ) → j < q → MaskOf p (λ i. cell x i j) (row_of senders j)
  pub none : (j : ℕ) → q ≤ j → row_of senders j ≡ 0

-- the senders of column j say whether row i has an amount in it now; those of other columns stay
pub record Noted (x senders senders' : List ℕ) (i j : ℕ) : Type 0 where
  pub here : member (row_of senders' j) ≡ with_nonzero i (cell x i j) (member (row_of senders j))
  pub other : (k : ℕ) → k ≢ j → row_of senders' k ≡ row_of senders k
