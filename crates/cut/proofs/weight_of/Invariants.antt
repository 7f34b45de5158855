-- `cut::weight_of` meets its contract: the members passed are weighed. Assumes nothing.
use Rattle.set.specs.Words.{mask}
use Rattle.cut.proofs.Weighing.{Weighed}
use Rattle.cut.proofs.weight_of.Given as goal

abbrev pub invariant-loop-i : goal.invariant-loop-i
invariant-loop-i l = Weighed l.weights (mask l.fn.named) l.sum (mask l.i-iterator.left)
