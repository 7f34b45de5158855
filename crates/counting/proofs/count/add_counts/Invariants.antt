-- `count::add_counts` meets its contract. Assumes nothing.
use Rattle.counting.proofs.Counting.{CountsLoop}
use Rattle.counting.proofs.count.add_counts.Given as goal

abbrev pub invariant-loop-i : goal.invariant-loop-i
invariant-loop-i l = CountsLoop l.targets l.sets l.width l.c l.initial.counts l.counts l.i
