-- `measure::measure` meets its contract. Assumes nothing.
use lib.ListN.{length}
use Rattle.measure.proofs.Measuring.{MeasureLoop}
use Rattle.measure.proofs.measure.Given as goal

abbrev pub invariant-loop-p : goal.invariant-loop-p
invariant-loop-p l =
    MeasureLoop l.tables l.ranks l.order (length l.order) l.initial.lengths l.initial.sets l.initial.amounts l.lengths l.sets l.amounts l.p-iterator.iter.rest.now
