-- `count::add_row` meets its contract: the members passed are counted. Assumes nothing.
use Rattle.set.specs.Words.{mask}
use Rattle.counting.proofs.Counting.{RowLoop}
use Rattle.counting.proofs.count.add_row.Given as goal

abbrev pub invariant-loop-t : goal.invariant-loop-t
invariant-loop-t l = RowLoop l.width l.s (mask l.fn.members) l.c l.initial.counts l.counts (mask l.t-iterator.left)
