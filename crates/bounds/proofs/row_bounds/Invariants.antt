-- `bounds::row_bounds` meets its contract: `some` and `every` bound the targets passed. Assumes nothing.
use Prim.Native.Nat.{◌≤◌}
use lib.ListN.{length}
use Rattle.set.specs.Words.{mask}
use Rattle.bounds.proofs.Covering.{BoundsSoFar}
use Rattle.bounds.proofs.row_bounds.Given as goal

abbrev pub invariant-loop-s : goal.invariant-loop-s
invariant-loop-s l = (l.s-index ≤ length l.from) × BoundsSoFar l.rows l.from l.s-index (mask l.some) (mask l.every)
