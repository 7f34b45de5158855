-- `excess::join` meets its contract. The loop's invariant: the sets passed are joined, the others are as they were. Assumes nothing.
use mathlib.Core.Path.{◌≡◌}
use Prim.Native.Nat.{◌≤◌}
use lib.ListN.{length}
use Rattle.excess.specs.Excess.{set_count}
use Rattle.excess.proofs.Subsets.{JoinedBelow}
use Rattle.excess.proofs.join.Given as goal

abbrev pub invariant-loop-k : goal.invariant-loop-k
invariant-loop-k l = (l.k ≤ set_count) × (length l.sums ≡ length l.initial.sums) × JoinedBelow l.i l.initial.sums l.k l.sums
