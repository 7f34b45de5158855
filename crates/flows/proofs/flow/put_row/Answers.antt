-- `flows::flow::put_row` meets its contract. It gathers the records of the row, and writes them. Assumes nothing.
use Rattle.std.proofs.Common.{length, arith, ap}
use Rattle.flows.proofs.FlowRow.{row-few, gathered_filled}
use Rattle.matrix.specs.Matrix.{cell}
use Rattle.flows.proofs.flow.put_row.Goals as goal

pub write_all-requires : goal.write_all-requires
write_all-requires c =
    let a = c.args in
    omega (arith, row-few a.s a.nt.now (cell a.amounts.now a.i), ap length c.gather-n.ensures.first)

pub returns : goal.returns
returns c = gathered_filled c.args.s c.args.nt.now (cell c.args.amounts.now c.args.i) c.gather-n.ensures c.write_all.ensures
