-- `pair_tree::put_tree_of` meets its contract: there is room for all pairs.
-- Assumes nothing.
use native.Mathlib.Omega.{arith}
use Rattle.pair_tree.proofs.put_tree_of.Goals as goal

pub put_tree_in-requires : goal.put_tree_in-requires
put_tree_in-requires g c = let p = c.requires in (p.0, p.1, p.2, omega (arith, p.3), omega (arith, p.3))
