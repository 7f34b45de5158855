-- The cut alone, without the amounts of a flow, and what is gathered of the rows to settle it.
-- Assumes nothing.
use Rattle.std.specs.Prelude.{◌≡◌, true, false, cond, List, ℕ, ◌*◌, ◌≤◌, ◌<◌, eqb, ltb, length}
use Rattle.simulation.specs.Fit.{total, weight_of, fits?, cut}
use Rattle.word.specs.Mask.{member}
use Rattle.relation.specs.Related.{holds}

-- the mask r is 01's smallest of the sets with the largest excess, empty exactly if m fits n
pub record CutOf (ws vs rel : List ℕ) (r : ℕ) : Type 0 where
  pub fit : fits? (holds rel) ws vs ≡ eqb r 0
  pub smallest : (i : ℕ) → i < length ws → cut (holds rel) ws vs i ≡ member r i
  pub no_others : (i : ℕ) → length ws ≤ i → member r i ≡ false

-- of the first n rows, those that lack one of the q columns; what these rows have, and what they lack
pub record Lacking (rel : List ℕ) (n q rows has lacks : ℕ) : Type 0 where
  pub inside : (i : ℕ) → member rows i ≡ true → i < n
  pub gap : (i : ℕ) → member rows i ≡ true → (j : ℕ) × (j < q) × (holds rel i j ≡ false)
  pub others : (i j : ℕ) → i < n → member rows i ≡ false → j < q → holds rel i j ≡ true
  pub columns : (j : ℕ) → member has j ≡ true → j < q
  pub had : (i j : ℕ) → member rows i ≡ true → j < q → holds rel i j ≡ true → member has j ≡ true
  pub lacked : (i j : ℕ) → member rows i ≡ true → j < q → holds rel i j ≡ false → member lacks j ≡ true

-- a column that one of them has is lacked by none of them, and they are all p rows
pub record IsCut (p rows has lacks : ℕ) : Type 0 where
  pub alike : (j : ℕ) → member has j ≡ true → member lacks j ≡ false
  pub alone : (j : ℕ) → member has j ≡ true → (i : ℕ) → i < p → member rows i ≡ true

-- the rows, if they have more to send than the columns that they have can take, and else none
unfoldable pub heavier : (ws vs : List ℕ) → ℕ → ℕ → ℕ
heavier ws vs rows has = cond (ltb (weight_of vs (member has) * total ws) (weight_of ws (member rows) * total vs)) rows 0
