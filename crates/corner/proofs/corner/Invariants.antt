-- `corner::corner` meets its contract: the loop's turns are those of `Turn`, over the lists and sums of the code. Assumes nothing.
use Prim.Native.Nat.{◌+◌, ◌-◌}
use lib.ListN.{length}
use Rattle.matrix.specs.Problem.{joins}
use Rattle.corner.proofs.Turn.{RuleAt}
use Rattle.corner.proofs.corner.Given as goal

abbrev pub invariant-loop-i : goal.invariant-loop-i
invariant-loop-i l = RuleAt (joins l.rows l.m.targets.now l.n.targets.now) l.m.weights.now l.n.weights.now l.i l.j l.a l.b l.related

abbrev pub decreases-loop-i : goal.decreases-loop-i
decreases-loop-i l = (length l.m.weights.now - l.i) + (length l.n.weights.now - l.j)
