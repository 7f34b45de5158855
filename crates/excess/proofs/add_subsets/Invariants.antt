-- `excess::add_subsets` meets its contract: each pass joins one place more. Assumes nothing.
use mathlib.Core.Path.{◌≡◌}
use lib.ListN.{length}
use Rattle.excess.specs.Excess.{set_count}
use Rattle.excess.proofs.Subsets.{JoinStage}
use Rattle.excess.proofs.add_subsets.Given as goal

abbrev pub invariant-loop-i : goal.invariant-loop-i
invariant-loop-i l = record { size : length l.sums ≡ set_count; stage : JoinStage l.initial.sums l.i l.sums }
