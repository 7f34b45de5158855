-- The tree of a pair in a buffer.
-- Assumes nothing.
use Rattle.std.specs.Prelude.{◌≡◌, List, ℕ, ◌≤◌, ◌<◌, length, Result, Ok, Err}
use Rattle.simulation.specs.Table.{Table}
use Rattle.simulation.specs.Tree.{tree_bytes}
use Rattle.buffer.specs.Buffer.{over}
use Rattle.counting.specs.Count.{longest}
use Rattle.answer.specs.declared.refusal.Refusal.{Refusal}
use Rattle.answer.specs.declared.refusal.Refusal.TheVariants.{ShortTree, LongTree}

-- the tree of a pair that is not kept is written if it is short enough and there is room for it; its length is given, but where it is too long
pub record TreePut (M N : Table) (s t : ℕ) (r : Result ℕ Refusal) (tree tree' : List ℕ) : Type 0 where
  pub long : longest < length (tree_bytes M N s t) → (r ≡ Err LongTree) × (tree' ≡ tree)
  pub short : length (tree_bytes M N s t) ≤ longest → length tree < length (tree_bytes M N s t) → (r ≡ Err (ShortTree (length (tree_bytes M N s t)))) × (tree' ≡ tree)
  pub written : length (tree_bytes M N s t) ≤ longest → length (tree_bytes M N s t) ≤ length tree
      → (r ≡ Ok (length (tree_bytes M N s t))) × (tree' ≡ over (tree_bytes M N s t) tree)
