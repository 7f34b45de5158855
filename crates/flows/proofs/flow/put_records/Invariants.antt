-- `flows::flow::put_records` meets its contract. The loop writes a piece for each target. Assumes nothing.
use mathlib.Core.List.{[]}
use lib.ListN.{length}
use Rattle.matrix.specs.Matrix.{cell}
use Rattle.flows.proofs.Pieces.{Going}
use Rattle.flows.proofs.FlowBytes.{flow_row-at}
use Rattle.flows.proofs.flow.put_records.Given as goal

abbrev pub invariant-loop-i : goal.invariant-loop-i
invariant-loop-i l = Going [] (flow_row-at l.mt l.nt (cell l.amounts)) (length l.mt) l.initial.buf l.i l.at l.buf
