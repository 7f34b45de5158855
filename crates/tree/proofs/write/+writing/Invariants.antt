-- The limit falls from a transition to the nodes of its children, which get half of it. Assumes nothing.
use Rattle.std.proofs.Common.{◌+◌, ◌*◌}
use Rattle.set.specs.Words.{mask}
use Rattle.tree.proofs.Nodes.{NodeLoop}
use Rattle.tree.proofs.Steps.{AroundLoop}
use Rattle.tree.proofs.Holes.{HoleLoop, size_left}
use Rattle.tree.proofs.write.+writing.Given as goal

abbrev pub decreases-write_around : goal.decreases-write_around
decreases-write_around l = 3 * l.step.limit + 1

abbrev pub decreases-write_node : goal.decreases-write_node
decreases-write_node l = 3 * l.node.half + 3

abbrev pub decreases-write_transition : goal.decreases-write_transition
decreases-write_transition l = 3 * l.step.limit + 2

abbrev pub invariant-write_around-loop-i : goal.invariant-write_around-loop-i
invariant-write_around-loop-i l = AroundLoop l.src l.step l.j l.n l.amounts l.stack l.buf l.rest l.at l.i

abbrev pub invariant-write_node-loop-t : goal.invariant-write_node-loop-t
invariant-write_node-loop-t l = NodeLoop l.src l.fn.node l.amounts l.stack l.buf l.rest l.at (mask l.t-iterator.left)

abbrev pub invariant-write_transition-loop-rest : goal.invariant-write_transition-loop-rest
invariant-write_transition-loop-rest l = HoleLoop l.src l.step l.amounts l.stack l.buf l.rest

abbrev pub decreases-write_transition-loop-rest : goal.decreases-write_transition-loop-rest
decreases-write_transition-loop-rest l = size_left l.rest
