-- `bounds::common` meets its contract: `every` has what the targets passed are all related to. Assumes nothing.
use Prim.Native.Nat.{◌≤◌}
use lib.ListN.{length}
use Rattle.set.specs.Words.{mask}
use Rattle.bounds.proofs.Covering.{CommonSoFar}
use Rattle.bounds.proofs.common.Given as goal

abbrev pub invariant-loop-s : goal.invariant-loop-s
invariant-loop-s l = (l.s-index ≤ length l.from) × CommonSoFar l.rows l.from l.s-index (mask l.every)
