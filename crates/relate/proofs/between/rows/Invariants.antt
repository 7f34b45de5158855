-- `between::rows` meets its contract. The loop's invariant: the rows passed are written. Assumes nothing.
use Prim.Native.Nat.{◌≤◌}
use lib.ListN.{length}
use Rattle.relate.proofs.Laws.{Done}
use Rattle.relate.proofs.between.rows.Given as goal

abbrev pub invariant-loop-i : goal.invariant-loop-i
invariant-loop-i l = (l.i ≤ length l.mt) × Done l.ranks l.width l.r l.mt l.nt l.initial.rel l.i l.rel
