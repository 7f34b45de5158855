-- `pair_tree::pairs` meets its contract.
-- Assumes nothing.
use native.Mathlib.Omega.{arith}
use Rattle.pair_tree.proofs.Putting.{count-is, count_small}
use Rattle.pair_tree.proofs.pairs.Goals as goal

pub overflow_mul-result : goal.overflow_mul-result
overflow_mul-result c = omega (arith, count_small c.requires c.states.ensures c.width.ensures)

pub returns : goal.returns
returns c = count-is c.requires c.states.ensures c.width.ensures
