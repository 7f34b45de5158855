-- `witness::flow_room` meets its contract: the loop sums up what the transitions before j need.
-- Assumes nothing.
use mathlib.Core.Path.{◌∙◌}
use Prim.Native.Nat.{◌+◌, ◌*◌, ◌≤◌}
use native.Mathlib.Omega.{arith}
use Rattle.simulation.specs.Limits.{most_entries}
use Rattle.form.proofs.FormLaws.{limits, starts_ascend}
use Rattle.flows.specs.Flow.{most_flow}
use Rattle.witness.proofs.Room.{room-start, room-end, room-number, room-added, room_small}
use Rattle.witness.proofs.flow_room.Goals as goal
use Rattle.witness.proofs.flow_room.Goals.{After-entries_listed}

pub overflow_add-s : goal.overflow_add-s
overflow_add-s c = omega (arith, c.requires.1, (limits _ c.requires.0.first).states-few)

pub start_of-end-requires : goal.start_of-end-requires
start_of-end-requires c = omega (arith, c.requires.1)

pub start_of-start-requires : goal.start_of-start-requires
start_of-start-requires c = omega (arith, c.requires.1)

pub loop-j-init : goal.loop-j-init
loop-j-init c = room-start _ c.requires.0 _ c.requires.1 c.start_of-start.ensures

pub entries_listed-requires : goal.entries_listed-requires
entries_listed-requires c =
    room-number _ c.requires.0 _ c.requires.1 _ (omega (arith, c.start_of-start.ensures)) (omega (arith, c.start_of-end.ensures))

-- what is added up stays small
small : (c : After-entries_listed) →
    let e = c.entries_listed.result in
    (e ≤ most_entries) × (c.loop-j.room + (3 + 6 * e * c.states-width.result) ≤ most_flow)
small c =
    let j = c.loop-j in
    room_small _ c.requires.0 _ c.requires.1 j.j (omega (arith, c.start_of-start.ensures)) (omega (arith, c.start_of-end.ensures)) j.invariant
    c.states-width.ensures c.entries_listed.ensures

pub overflow_mul-room : goal.overflow_mul-room
overflow_mul-room c = omega (arith, (small c).0)

pub overflow_mul-room-in-loop-j : goal.overflow_mul-room-in-loop-j
overflow_mul-room-in-loop-j c = omega (arith, (small c).1)

pub overflow_add-room : goal.overflow_add-room
overflow_add-room c = omega (arith, (small c).1)

pub overflow_add-room-in-loop-j : goal.overflow_add-room-in-loop-j
overflow_add-room-in-loop-j c = omega (arith, (small c).1)

pub loop-j-preserved : goal.loop-j-preserved
loop-j-preserved c =
    let j = c.loop-j in
    room-added _ c.requires.0 _ c.requires.1 j.j (omega (arith, c.start_of-start.ensures)) (omega (arith, c.start_of-end.ensures)) j.invariant
    c.states-width.ensures c.entries_listed.ensures

pub returns : goal.returns
returns c =
    let ascend = starts_ascend _ c.requires.0.first c.args.s (c.args.s + 1) (omega arith) (omega (arith, c.requires.1)) in
    c.loop-j.invariant ∙ room-end _ c.requires.0 _ c.requires.1 (omega (arith, ascend, c.start_of-start.ensures, c.start_of-end.ensures, c.loop-j.auto.j-end))
