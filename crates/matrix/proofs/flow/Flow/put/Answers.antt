-- `Flow::put` meets its contract. Assumes nothing.
use native.Mathlib.Omega.{arith}
use Rattle.matrix.proofs.MatrixLaws.{put_set}
use Rattle.matrix.proofs.MaskedLaws.{noted}
use Rattle.matrix.proofs.flow.Flow.put.Goals as goal

pub returns-clause-put : goal.returns-clause-put
returns-clause-put c =
    let a = c.args in
    let m = a.self.now in
    let p = put_set m.amounts.now a.i a.j a.v (omega arith) (omega arith) in
    (p, noted m.senders.now _ c.column-column.result c.marked.result (omega arith) p.here c.column-column.ensures c.marked.ensures c.put.ensures)
