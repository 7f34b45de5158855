-- `widen::put_bytes` meets its contract: a piece for each byte.
-- Assumes nothing.
use Prim.Native.Nat.{◌-◌}
use Rattle.widen.proofs.Pieces.{Storing, one}
use Rattle.widen.proofs.put_bytes.Given as goal

abbrev pub invariant-loop-i : goal.invariant-loop-i
invariant-loop-i l = Storing (one l.s l.from) l.n l.initial.out l.i l.i l.out

abbrev pub decreases-loop-i : goal.decreases-loop-i
decreases-loop-i l = l.n - l.i
