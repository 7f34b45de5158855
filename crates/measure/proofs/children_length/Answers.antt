-- `measure::children_length` meets its contract. Assumes nothing.
use native.Mathlib.Omega.{arith}
use Prim.Native.Nat.{ℕ, ◌+◌, ◌*◌, ◌≤◌}
use lib.ListN.{get_or}
use Rattle.simulation.specs.Limits.{most_states}
use Rattle.measure.specs.Lengths.{most, most_children}
use Rattle.measure.proofs.Measuring.{length-start, length_node, length-fits, length-next, length-end}
use Rattle.measure.proofs.children_length.Goals as goal
use Rattle.measure.proofs.children_length.Goals.{After-node_length, At-loop-i}

-- no length is above the greatest
small : (o : At-loop-i) → (i : ℕ) → get_or o.args.lengths.now i 0 ≤ most
small o i = omega (arith, o.type_inv.lengths i)

-- the sum can be made
fits : (c : After-node_length) → let r = c.node_length.result in
    (3 + r ≤ 4 + most_states * most) × (c.loop-i.len + (3 + r) ≤ most_children + (4 + most_states * most))
fits c =
    length-fits c.requires ((λ i. omega (arith, c.type_inv.lengths i))) c.loop-i.invariant c.loop-i-test.true c.get.ensures _ c.node_length.ensures

pub loop-i-init : goal.loop-i-init
loop-i-init c = let a = c.args in length-start a.tables.now a.lengths.now a.targets.now a.sets.now

pub node_length-requires : goal.node_length-requires
node_length-requires c = length_node c.requires (small (goal.at.node_length-requires c).At-loop-i) c.loop-i.invariant c.loop-i-test.true c.get.ensures

pub overflow_add-len : goal.overflow_add-len
overflow_add-len c = record { fits = omega (arith, (fits c).0) }

pub overflow_add-len-in-loop-i : goal.overflow_add-len-in-loop-i
overflow_add-len-in-loop-i c = record { fits = omega (arith, (fits c).1) }

pub loop-i-preserved : goal.loop-i-preserved
loop-i-preserved c =
    length-next c.requires (small (goal.at.loop-i-preserved c).At-loop-i) c.loop-i.invariant c.loop-i-test.true c.get.ensures _ c.node_length.ensures

pub returns : goal.returns
returns c = length-end c.requires (small (goal.at.returns c).At-loop-i) c.loop-i.invariant c.loop-i-test.false
