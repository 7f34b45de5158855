-- `Flow::deduct` meets its contract. Assumes nothing.
use native.Mathlib.Omega.{arith}
use Rattle.matrix.proofs.MatrixLaws.{set_takes_at}
use Rattle.matrix.proofs.flow.Flow.deduct.Goals as goal

pub returns-clause-deducted : goal.returns-clause-deducted
returns-clause-deducted c =
    let a = c.args in
    let f = a.self.now in
    (set_takes_at f.supply.now a.i _ a.d (omega arith) (omega arith), set_takes_at f.demand.now a.j _ a.d (omega arith) (omega arith))
