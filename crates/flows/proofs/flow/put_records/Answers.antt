-- `flows::flow::put_records` meets its contract. The loop writes a piece for each target. Assumes nothing.
use mathlib.Core.Path.{refl}
use mathlib.Core.List.{[]}
use Prim.Native.Nat.{◌*◌}
use native.Mathlib.Omega.{arith}
use lib.ListN.{length}
use Rattle.matrix.specs.Matrix.{cell}
use Rattle.flows.proofs.Pieces.{Plan, going_start, going_within, going_room, going_fits, going_next, going_end}
use Rattle.flows.proofs.FlowBytes.{flow_row-at, records_plan, records_done}
use Rattle.flows.proofs.flow.put_records.Goals as goal
use Rattle.flows.proofs.flow.put_records.Goals.{Start}

plan : (k : Start) → Plan [] (flow_row-at k.args.mt.now k.args.nt.now (cell k.args.amounts.now))
    (λ i. length k.args.nt.now * 6) (length k.args.mt.now) k.args.buf.now
plan k = records_plan k.args.mt.now k.args.nt.now (cell k.args.amounts.now) k.args.buf.now k.requires.1

pub loop-i-init : goal.loop-i-init
loop-i-init c = going_start (plan (goal.at.loop-i-init c).Start) (record { count = refl; bytes = refl })

pub overflow_cast-target : goal.overflow_cast-target
overflow_cast-target c = omega (arith, c.requires.0.sources c.loop-i.i (omega arith))

pub slice_bounds-put_row-count : goal.slice_bounds-put_row-count
slice_bounds-put_row-count c = going_within (plan (goal.at.slice_bounds-put_row-count c).Start) c.loop-i.invariant

pub slice_bounds-put_row-start : goal.slice_bounds-put_row-start
slice_bounds-put_row-start c = going_within (plan (goal.at.slice_bounds-put_row-start c).Start) c.loop-i.invariant

pub put_row-at-requires : goal.put_row-at-requires
put_row-at-requires c =
    let q = c.requires.0 in
    let lt = c.loop-i-test.true in (
      record { row = omega (arith, q.rows); few = q.few; targets = q.targets; cells = q.cells },
      going_room (plan (goal.at.put_row-at-requires c).Start) c.loop-i.invariant lt,
    )

pub overflow_add-at : goal.overflow_add-at
overflow_add-at c =
    let q = c.put_row-at.ensures in
    omega (arith, q.count, (plan (goal.at.overflow_add-at c).Start).most c.loop-i.i (omega arith), going_fits (plan (goal.at.overflow_add-at c).Start) c.loop-i.invariant (omega arith))

pub loop-i-preserved : goal.loop-i-preserved
loop-i-preserved c =
    going_next (plan (goal.at.loop-i-preserved c).Start) c.loop-i.invariant (omega arith) c.put_row-at.ensures

pub returns : goal.returns
returns c =
    records_done c.args.mt.now c.args.nt.now (cell c.args.amounts.now) (going_end (plan (goal.at.returns c).Start) c.loop-i.invariant (omega arith))
