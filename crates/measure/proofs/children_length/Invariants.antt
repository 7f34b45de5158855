-- `measure::children_length` meets its contract. Assumes nothing.
use Rattle.measure.proofs.Measuring.{LengthLoop}
use Rattle.measure.proofs.children_length.Given as goal

abbrev pub invariant-loop-i : goal.invariant-loop-i
invariant-loop-i l = LengthLoop l.tables l.lengths l.targets l.sets l.len l.i
