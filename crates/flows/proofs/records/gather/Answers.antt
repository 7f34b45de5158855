-- `flows::records::gather` meets its contract. Each turn takes or skips the record of one target. Assumes nothing.
use Rattle.matrix.specs.Matrix.{cell}
use Rattle.flows.proofs.FlowRow.{gathering_start, gathering_take, gathering_skip, gathering_end}
use Rattle.flows.proofs.records.gather.Goals as goal
use Rattle.flows.proofs.records.gather.Goals.{then-kept, else-kept}

pub loop-j-init : goal.loop-j-init
loop-j-init c = gathering_start _ _ _ c.args.rs.now c.requires.1

pub loop-j-preserved : goal.loop-j-preserved
loop-j-preserved c =
    let a = c.args in
    let row = cell a.amounts.now a.i in
    let i = c.loop-j.invariant in
    let r = c.record_at-r.ensures in
    elim c.if-kept.branch [
      | then-kept w ↦ rw (w.rs-is, w.n-is) (gathering_take a.s a.nt.now row i c.loop-j-test.true r w.if-kept.true)
      | else-kept w ↦ rw (w.rs-is, w.n-is) (gathering_skip a.s a.nt.now row i c.loop-j-test.true r w.if-kept.false)
    ]

pub returns : goal.returns
returns c = gathering_end _ _ _ c.loop-j.invariant c.loop-j-test.false
