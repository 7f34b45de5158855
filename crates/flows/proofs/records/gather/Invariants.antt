-- `flows::records::gather` meets its contract. Each turn takes or skips the record of one target. Assumes nothing.
use Rattle.matrix.specs.Matrix.{cell}
use Rattle.flows.proofs.FlowRow.{Gathering}
use Rattle.flows.proofs.records.gather.Given as goal

abbrev pub invariant-loop-j : goal.invariant-loop-j
invariant-loop-j l = Gathering l.s l.nt (cell l.amounts l.i) l.rs l.n l.j
