-- `witness::flow_room` meets its contract: the loop sums up what the transitions before j need.
-- Assumes nothing.
use mathlib.Core.Path.{◌≡◌}
use Rattle.witness.proofs.Room.{so_far}
use Rattle.witness.proofs.flow_room.Given as goal

abbrev pub invariant-loop-j : goal.invariant-loop-j
invariant-loop-j l = l.room ≡ so_far l.tables l.s l.j
