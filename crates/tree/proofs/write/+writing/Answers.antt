-- A node holds transitions and a transition holds nodes: each part of the buffer is written, and what is longer than half is left.
-- Assumes nothing.
use Rattle.std.proofs.Common.{◌≡◌, ℕ, ◌+◌, ◌-◌, ◌≤◌, List, length, take, drop, refl, ap, ◌∙◌, None, arith}
use Rattle.form.specs.Tables.{first_step}
use Rattle.form.proofs.FormLaws.{targets-length}
use Rattle.set.proofs.Walks.{begun}
use Rattle.buffer.proofs.Buffer.{back}
use Rattle.buffer.proofs.Parts.{part-size, part_length}
use Rattle.tree.proofs.Slots.{slot_lent}
use Rattle.tree.proofs.Nodes.{count-byte, NodeLoop, Next, node_room, node_begins, node_asked, turn_slot, node_step, node_offset, node_next, node_ends}
use Rattle.tree.proofs.Steps.{Child, step-long, begin_given, around_begins, children_few, stack_room, number-known, place-known, entry_slot, sum-given, child_slot, child_fits, child-given, child_offset, around_next, around_ends}
use Rattle.tree.proofs.Holes.{hole_begins, hole_room, hole_step, hole_short, hole_offset, hole_less, hole_next, hole_ends}
use Rattle.tree.proofs.write.+writing.Goals as goal
use Rattle.tree.proofs.write.+writing.Goals.{write_around-After-get-members, write_node-After-pair_length}

-- a list whose end was lent is as long as it was
lent_kept : (a : ℕ) (l ys : List ℕ) → a ≤ length l → length ys ≡ length (take (length l - a) (drop a l)) → length (back a l ys) ≡ length l
lent_kept a l ys le e =
    let n : ℕ = length l - a in
    let room : a + n ≤ length l = omega arith in
    part_length a n ys l (e ∙ part-size a n l room) room

-- the child whose set is in hand
child_of : (t : ℕ) (c : write_around-After-get-members t) → Child c.loop-i.invariant c.put_entry-target.result c.put_entry-target.new.buf c.get-members.result
child_of t c =
    let put = c.put_entry-target.ensures in
    record { more = c.loop-i-test.true; target = put.0; put = put.1; same = c.put_entry-target.auto.buf; set = c.get-members.ensures }

-- the member whose length is in hand
next_of : (t : ℕ) (c : write_node-After-pair_length t) → Next c.loop-t.invariant c.in-Some.t c.pair_length.result
next_of t c = record { low = c.in-Some.ensures.steps.lowest; size = c.pair_length.ensures }

pub write_around-begin_transition-j-requires : goal.write_around-begin_transition-j-requires
write_around-begin_transition-j-requires t c = begin_given c.requires.0

pub write_around-targets-n-requires : goal.write_around-targets-n-requires
write_around-targets-n-requires t c = number-known c.requires.0 c.begin_transition-j.ensures.choice

pub write_around-loop-i-init : goal.write_around-loop-i-init
write_around-loop-i-init t c =
    let p = c.requires in
    around_begins p.0 p.1 c.begin_transition-j.ensures _ (ap length c.targets-n.ensures ∙ targets-length (first_step c.args.src.now.tables.now c.begin_transition-j.result))
    (record { same-amounts = c.begin_transition-j.auto.amounts; same_stack = c.begin_transition-j.auto.stack; same_buf = c.begin_transition-j.auto.buf })
    (omega arith)

pub write_around-slice_bounds-put_entry-end : goal.write_around-slice_bounds-put_entry-end
write_around-slice_bounds-put_entry-end t c = (entry_slot c.loop-i.invariant c.loop-i-test.true).room

pub write_around-put_entry-target-requires : goal.write_around-put_entry-target-requires
write_around-put_entry-target-requires t c =
    let l = c.loop-i.invariant in
    (l.loop.call.given.ranked.loaded, number-known l.loop.call l.choice, place-known l c.loop-i-test.true, omega (arith, slot_lent (entry_slot l c.loop-i-test.true)))

pub write_around-get-members-requires : goal.write_around-get-members-requires
write_around-get-members-requires t c = omega (arith, stack_room c.loop-i.invariant, c.loop-i-test.true)

pub write_around-node_length-requires : goal.write_around-node_length-requires
write_around-node_length-requires t c = sum-given _ (child_of t (goal.at.write_around-node_length-requires t c).After-get-members)

pub write_around-overflow_add-end : goal.write_around-overflow_add-end
write_around-overflow_add-end t c = record { fits = child_fits _ (child_of t (goal.at.write_around-overflow_add-end t c).After-get-members) c.node_length.ensures }

pub write_around-offset_bounds-stack-n : goal.write_around-offset_bounds-stack-n
write_around-offset_bounds-stack-n t c = omega (arith, children_few c.loop-i.invariant)

pub write_around-slice_bounds-deeper-count : goal.write_around-slice_bounds-deeper-count
write_around-slice_bounds-deeper-count t c = stack_room c.loop-i.invariant

pub write_around-slice_bounds-deeper-start : goal.write_around-slice_bounds-deeper-start
write_around-slice_bounds-deeper-start t c = stack_room c.loop-i.invariant

pub write_around-slice_bounds-write_node-end : goal.write_around-slice_bounds-write_node-end
write_around-slice_bounds-write_node-end t c =
    (child_slot _ (child_of t (goal.at.write_around-slice_bounds-write_node-end t c).After-get-members) c.node_length.ensures).room

pub write_around-write_node-hole-requires : goal.write_around-write_node-hole-requires
write_around-write_node-hole-requires t c = (
  omega (arith, c.decreases, step-long c.requires.0 c.requires.1),
  child-given _ (child_of t (goal.at.write_around-write_node-hole-requires t c).After-get-members) c.node_length.ensures,
)

pub write_around-offset-requires : goal.write_around-offset-requires
write_around-offset-requires t c =
    child_offset _ (child_of t (goal.at.write_around-offset-requires t c).After-get-members) c.node_length.ensures c.write_node-hole.ensures

pub write_around-loop-i-preserved : goal.write_around-loop-i-preserved
write_around-loop-i-preserved t c =
    around_next _ (child_of t (goal.at.write_around-loop-i-preserved t c).After-get-members) c.node_length.ensures c.write_node-hole.ensures
    c.write_node-hole.auto.buf c.offset.ensures c.or-rest.ensures c.write_node-hole.new.stack c.write_node-hole.auto.amounts
    (lent_kept _ c.loop-i.stack c.write_node-hole.new.stack (stack_room c.loop-i.invariant) c.write_node-hole.auto.stack)

pub write_around-returns : goal.write_around-returns
write_around-returns t c = around_ends c.loop-i.invariant c.loop-i-test.false

pub write_node-overflow_cast-buf : goal.write_node-overflow_cast-buf
write_node-overflow_cast-buf t c = record { fits = count-byte _ c.count.ensures }

pub write_node-bounds-buf-0 : goal.write_node-bounds-buf-0
write_node-bounds-buf-0 t c = node_room c.requires

pub write_node-loop-t-init : goal.write_node-loop-t-init
write_node-loop-t-init t c =
    let a = c.args in
    begun (NodeLoop a.src.now a.node a.amounts.now a.stack.now _ None 1) c.into_iter-t-iterator.ensures.into_iter_gives
    (node_begins c.requires _ c.count.ensures (omega arith))

pub write_node-pair_length-requires : goal.write_node-pair_length-requires
write_node-pair_length-requires t c = node_asked c.loop-t.invariant _ c.in-Some.ensures.steps.lowest

pub write_node-overflow_add-end : goal.write_node-overflow_add-end
write_node-overflow_add-end t c =
    let l = c.loop-t.invariant in
    record { fits = omega (arith, (turn_slot l (next_of t (goal.at.write_node-overflow_add-end t c).After-pair_length)).room, l.small) }

pub write_node-slice_bounds-write_transition-end : goal.write_node-slice_bounds-write_transition-end
write_node-slice_bounds-write_transition-end t c = (turn_slot _ (next_of t (goal.at.write_node-slice_bounds-write_transition-end t c).After-pair_length)).room

pub write_node-write_transition-hole-requires : goal.write_node-write_transition-hole-requires
write_node-write_transition-hole-requires t c =
    (omega (arith, c.decreases), node_step _ (next_of t (goal.at.write_node-write_transition-hole-requires t c).After-pair_length))

pub write_node-offset-requires : goal.write_node-offset-requires
write_node-offset-requires t c =
    node_offset _ (next_of t (goal.at.write_node-offset-requires t c).After-pair_length) c.write_transition-hole.ensures

pub write_node-loop-t-preserved : goal.write_node-loop-t-preserved
write_node-loop-t-preserved t c =
    node_next _ (next_of t (goal.at.write_node-loop-t-preserved t c).After-pair_length) c.write_transition-hole.ensures c.write_transition-hole.auto.buf
    c.offset.ensures c.or-rest.ensures _ c.in-Some.ensures.steps.left c.write_transition-hole.auto.amounts c.write_transition-hole.auto.stack

pub write_node-returns : goal.write_node-returns
write_node-returns t c = node_ends c.loop-t.invariant c.in-None.ensures.steps.0

pub write_transition-loop-rest-init : goal.write_transition-loop-rest-init
write_transition-loop-rest-init t c = hole_begins c.requires c.if-step-len.false (omega arith)

pub write_transition-overflow_add-end : goal.write_transition-overflow_add-end
write_transition-overflow_add-end t c = let l = c.loop-rest.invariant in record { fits = omega (arith, hole_room l c.in-Some.is, l.loop.small) }

pub write_transition-slice_bounds-write_around-end : goal.write_transition-slice_bounds-write_around-end
write_transition-slice_bounds-write_around-end t c = hole_room c.loop-rest.invariant c.in-Some.is

pub write_transition-write_around-hole-requires : goal.write_transition-write_around-hole-requires
write_transition-write_around-hole-requires t c =
    let l = c.loop-rest.invariant in
    (omega (arith, c.decreases), (hole_step l c.in-Some.is, hole_short l c.in-Some.is))

pub write_transition-offset-rest-requires : goal.write_transition-offset-rest-requires
write_transition-offset-rest-requires t c = hole_offset c.loop-rest.invariant c.in-Some.is c.write_around-hole.ensures

pub write_transition-loop-rest-smaller : goal.write_transition-loop-rest-smaller
write_transition-loop-rest-smaller t c = hole_less c.loop-rest.invariant c.in-Some.is c.write_around-hole.ensures c.offset-rest.ensures

pub write_transition-loop-rest-preserved : goal.write_transition-loop-rest-preserved
write_transition-loop-rest-preserved t c =
    hole_next c.loop-rest.invariant c.in-Some.is c.write_around-hole.ensures c.offset-rest.ensures c.write_around-hole.auto.buf c.write_around-hole.auto.amounts c.write_around-hole.auto.stack

pub write_transition-returns : goal.write_transition-returns
write_transition-returns t c =
    record { short = λ _. (refl, hole_ends c.loop-rest.invariant c.in_default.is); long = λ h. absurd (omega (arith, c.if-step-len.false)) }
