-- `excess::gather_sums` meets its contract: the weights passed are gathered. Assumes nothing.
use mathlib.Core.Path.{◌≡◌}
use Prim.Native.Nat.{ℕ, ◌*◌, ◌<◌}
use lib.ListN.{length}
use Rattle.simulation.specs.Fit.{weight}
use Rattle.excess.specs.Excess.{BySets}
use Rattle.excess.proofs.Gathering.{Summing}
use Rattle.excess.proofs.gather_sums.Given as goal

abbrev pub invariant-loop-j : goal.invariant-loop-j
invariant-loop-j g l = record {
  summing : Summing l.weights l.t l.j l.sums;
  by_sets : (at : ℕ → ℕ) → ((j a : ℕ) → j < length l.weights → goal.F-post g l.set_of j a → a ≡ at j) → BySets l.j at (λ j. weight l.weights j * l.t) l.sums;
}
