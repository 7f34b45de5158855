-- `widen::put_transitions` meets its contract: a piece of three bytes for each transition.
-- Assumes nothing.
use Prim.Native.Nat.{◌*◌, ◌-◌}
use Rattle.widen.specs.Parts.{wide_transition}
use Rattle.widen.proofs.Pieces.{Storing}
use Rattle.widen.proofs.put_transitions.Given as goal

abbrev pub invariant-loop-i : goal.invariant-loop-i
invariant-loop-i l = Storing (wide_transition l.s l.from) l.n l.initial.out l.i (3 * l.i) l.out

abbrev pub decreases-loop-i : goal.decreases-loop-i
decreases-loop-i l = l.n - l.i
