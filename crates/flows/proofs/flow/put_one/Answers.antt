-- `flows::flow::put_one` meets its contract. Assumes nothing.
use native.Mathlib.Omega.{arith}
use Rattle.matrix.specs.Matrix.{cell}
use Rattle.flows.proofs.Pieces.{back_room}
use Rattle.flows.proofs.FlowBytes.{bytes-few, head-before}
use Rattle.flows.proofs.flow.put_one.Goals as goal

pub put_head-requires : goal.put_head-requires
put_head-requires c =
    let a = c.args in
    let q = c.requires.1 in
    let w = c.put_records-bytes.ensures in (
      c.requires.0,
      omega (arith, bytes-few a.mt.now a.nt.now (cell a.amounts.now) _ q.rows q.few w.count),
      back_room 3 a.buf.now
          c.put_records-bytes.new.buf (omega arith),
    )

pub overflow_add-result : goal.overflow_add-result
overflow_add-result c =
    let a = c.args in
    let q = c.requires.1 in
    let w = c.put_records-bytes.ensures in
    omega (arith, bytes-few a.mt.now a.nt.now (cell a.amounts.now) _ q.rows q.few w.count)

pub returns : goal.returns
returns c =
    let a = c.args in
    head-before a.place a.mt.now a.nt.now (cell a.amounts.now) a.buf.now (omega arith)
    c.put_records-bytes.ensures c.put_head.ensures
