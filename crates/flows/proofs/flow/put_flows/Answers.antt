-- `flows::flow::put_flows` meets its contract. The loop writes the flow of a transition each turn. Assumes nothing.
use mathlib.Core.Path.{◌≡◌}
use Prim.Native.Nat.{ℕ, ◌-◌, ◌≤◌, ◌<◌}
use native.Mathlib.Omega.{arith}
use lib.ListN.{length, set, length-set}
use Rattle.simulation.specs.Table.{steps}
use Rattle.form.specs.Tables.{first_form, first_table, second_table}
use Rattle.form.proofs.FormLaws.{limits}
use Rattle.flows.specs.Flow.{flow_room}
use Rattle.flows.proofs.FlowWhole.{Pair, count-is, count-ordered, count-few, number_fits, step-answered, room-kept, room-some, flowing_begin, flowing_within, flowing_room, flowing_fits, flowing_next, flowing_end}
use Rattle.flows.proofs.flow.put_flows.Goals as goal
use Rattle.flows.proofs.flow.put_flows.Goals.{After-start_of, After-start_of-start}

-- the pair, once its first transition is known
pair : (d : After-start_of-start) →
    let a = d.args in
    Pair a.tables.now a.rows.now a.amounts.now a.s a.t d.start_of-start.result
pair d = record { chosen = d.requires.0; from = d.start_of-start.ensures }

-- the count of its transitions, with the next state's first one known
counted : (d : After-start_of) →
    let a = d.args in
    d.start_of.result - d.start_of-start.result ≡ length (steps (first_table a.tables.now) a.s)
counted d = count-is (record { chosen = d.requires.0; from = d.start_of-start.ensures }) d.start_of.ensures

-- in each turn the transition is one of them
turn : {k m n : ℕ} → k < m → m ≡ n → k < n
turn lt e = omega arith

-- the buffer has room for all of them, also after its first byte is stored
room : (d : After-start_of) →
    let a = d.args in
    flow_room (first_table a.tables.now) (second_table a.tables.now) a.s ≤ length (set a.buf.now 0 (d.start_of.result - d.start_of-start.result))
room d = room-kept (record { chosen = d.requires.0; from = d.start_of-start.ensures }) d.args.buf.now d.requires.1 (counted d)

pub start_of-start-requires : goal.start_of-start-requires
start_of-start-requires c = let p = c.requires.0 in omega (arith, p.first)

pub overflow_add-s : goal.overflow_add-s
overflow_add-s c =
    omega (arith, c.requires.0.first, (limits (first_form c.args.tables.now) c.requires.0.loaded.first).states-few)

pub start_of-requires : goal.start_of-requires
start_of-requires c = let p = c.requires.0 in omega (arith, p.first)

pub overflow_sub-count : goal.overflow_sub-count
overflow_sub-count c = count-ordered (pair (goal.at.overflow_sub-count c).After-start_of-start) c.start_of.ensures

pub overflow_cast-buf : goal.overflow_cast-buf
overflow_cast-buf c = omega (arith, counted c, count-few (pair (goal.at.overflow_cast-buf c).After-start_of-start))

pub bounds-buf-0 : goal.bounds-buf-0
bounds-buf-0 c = room-some (pair (goal.at.bounds-buf-0 c).After-start_of-start) c.args.buf.now c.requires.1 (counted (goal.at.bounds-buf-0 c).After-start_of)

pub loop-k-init : goal.loop-k-init
loop-k-init c = flowing_begin (pair (goal.at.loop-k-init c).After-start_of-start) c.args.buf.now c.requires.1 (counted (goal.at.loop-k-init c).After-start_of)

pub overflow_add-start : goal.overflow_add-start
overflow_add-start c = omega (arith, number_fits (pair (goal.at.overflow_add-start c).After-start_of-start) c.loop-k.k (turn c.loop-k-test.true (counted (goal.at.overflow_add-start c).After-start_of)))

pub slice_bounds-put_step-count : goal.slice_bounds-put_step-count
slice_bounds-put_step-count c = flowing_within (pair (goal.at.slice_bounds-put_step-count c).After-start_of-start) _ (room (goal.at.slice_bounds-put_step-count c).After-start_of) c.loop-k.invariant

pub slice_bounds-put_step-start : goal.slice_bounds-put_step-start
slice_bounds-put_step-start c = flowing_within (pair (goal.at.slice_bounds-put_step-start c).After-start_of-start) _ (room (goal.at.slice_bounds-put_step-start c).After-start_of) c.loop-k.invariant

pub put_step-at-requires : goal.put_step-at-requires
put_step-at-requires c =
    let p = pair (goal.at.put_step-at-requires c).After-start_of-start in
    let lt = turn c.loop-k-test.true (counted (goal.at.put_step-at-requires c).After-start_of) in
    (step-answered p c.loop-k.amounts c.loop-k.k lt (omega arith), p.chosen.rows_kept, flowing_room p _ (room (goal.at.put_step-at-requires c).After-start_of) c.loop-k.invariant lt)

pub overflow_add-at : goal.overflow_add-at
overflow_add-at c =
    let fits = flowing_fits (pair (goal.at.overflow_add-at c).After-start_of-start) _ (room (goal.at.overflow_add-at c).After-start_of) c.loop-k.invariant (turn c.loop-k-test.true (counted (goal.at.overflow_add-at c).After-start_of)) c.put_step-at.ensures in
    omega (arith, fits, length-set c.args.buf.now 0 (c.start_of.result - c.start_of-start.result))

pub loop-k-preserved : goal.loop-k-preserved
loop-k-preserved c =
    let lt = turn c.loop-k-test.true (counted (goal.at.loop-k-preserved c).After-start_of) in
    flowing_next (pair (goal.at.loop-k-preserved c).After-start_of-start) _ (room (goal.at.loop-k-preserved c).After-start_of) c.loop-k.invariant lt c.put_step-at.ensures

pub returns : goal.returns
returns c =
    let e = counted (goal.at.returns c).After-start_of in
    flowing_end (pair (goal.at.returns c).After-start_of-start) c.args.buf.now c.requires.1 e c.loop-k.invariant (omega (arith, e))
