-- `widen::put_codes` meets its contract: a piece of two bytes for each code.
-- Assumes nothing.
use Prim.Native.Nat.{◌*◌, ◌-◌}
use Rattle.widen.specs.Parts.{wide_code}
use Rattle.widen.proofs.Pieces.{Storing}
use Rattle.widen.proofs.put_codes.Given as goal

abbrev pub invariant-loop-i : goal.invariant-loop-i
invariant-loop-i l = Storing (wide_code l.s) l.n l.initial.out l.i (2 * l.i) l.out

abbrev pub decreases-loop-i : goal.decreases-loop-i
decreases-loop-i l = l.n - l.i
