-- `measure::node_length` meets its contract: the lengths of the members passed are added up. Assumes nothing.
use Rattle.set.specs.Words.{mask}
use Rattle.measure.proofs.Sums.{SumLoop}
use Rattle.measure.proofs.node_length.Given as goal

abbrev pub invariant-loop-t : goal.invariant-loop-t
invariant-loop-t l = SumLoop l.tables l.lengths l.s (mask l.fn.members) l.len (mask l.t-iterator.left)
