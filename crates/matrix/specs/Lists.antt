-- Lists that a struct holds lent.
-- Assumes nothing.
use Rattle.std.specs.Prelude.{◌≡◌, List, ℕ, length}
use Rattle.std.specs.Borrow.{MutBor}

-- the same list, as long, whatever it holds
pub record SameList (x y : MutBor (List ℕ)) : Type 0 where
  pub name : y.ghost_name ≡ x.ghost_name
  pub same_length : length y.now ≡ length x.now
