-- `bounds::set_of` meets its contract: the set has the targets passed. Assumes nothing.
use Prim.Native.Nat.{◌≤◌}
use lib.ListN.{length}
use Rattle.set.specs.Words.{mask}
use Rattle.bounds.specs.Quick.{SetOf}
use Rattle.bounds.proofs.set_of.Given as goal

abbrev pub invariant-loop-t : goal.invariant-loop-t
invariant-loop-t l = (l.t-index ≤ length l.to) × SetOf l.to l.t-index (mask l.set)
