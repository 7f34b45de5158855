-- `gather::gather_rows` meets its contract: the rows passed are gathered. Assumes nothing.
use mathlib.Core.Path.{◌≡◌}
use Prim.Native.Nat.{◌≤◌}
use lib.ListN.{length}
use Rattle.gather.specs.Places.{Gathered}
use Rattle.gather.proofs.gather_rows.Given as goal

abbrev pub invariant-loop-i : goal.invariant-loop-i
invariant-loop-i l = (l.i ≤ length l.from) × (length l.rel ≡ length l.initial.rel) × Gathered l.rows l.from l.to l.i l.rel
