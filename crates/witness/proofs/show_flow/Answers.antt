-- `witness::show_flow` meets its contract.
-- Assumes nothing.
use mathlib.Core.Path.{refl, ap}
use native.Mathlib.Omega.{arith}
use Rattle.std.specs.Prelude.{Ok}
use Rattle.form.proofs.Contract.{contract-states}
use Rattle.flows.proofs.FlowRoom.{flow-within}
use Rattle.witness.proofs.Showing.{flow-refused, flow-shown}
use Rattle.witness.proofs.Room.{room_limit, room_asked-enough}
use Rattle.witness.proofs.show_flow.Goals as goal

pub overflow_cast-result : goal.overflow_cast-result
overflow_cast-result c =
    let p = c.requires in
    omega (arith, c.flow_room-room.ensures, room_limit _ p.loaded _ p.first)

pub returns-then-flow-room : goal.returns-then-flow-room
returns-then-flow-room c =
    let p = c.requires in
    flow-refused _ _ _ _ _ _ _ _ p.first (omega (arith, p.second, contract-states c.args.tables.now)) p.kept c.flow_room-room.ensures c.if-flow-room.true refl

pub put_flows-written-requires : goal.put_flows-written-requires
put_flows-written-requires c = let p = c.requires in (p, omega (arith, c.flow_room-room.ensures, room_asked-enough _ p.loaded _ p.first))

pub overflow_cast-written : goal.overflow_cast-written
overflow_cast-written c =
    let p = c.requires in
    let f = c.put_flows-written.ensures in
    omega (arith, f.filled.count, flow-within p f.amounts, room_asked-enough _ p.loaded _ p.first, room_limit _ p.loaded _ p.first)

pub returns : goal.returns
returns c =
    flow-shown _ _ _ _ _ _ _ _ c.flow_room-room.ensures (omega arith) c.put_flows-written.ensures (ap Ok c.with_written.ensures)
