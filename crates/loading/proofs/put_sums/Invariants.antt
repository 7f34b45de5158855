-- `loading::put_sums` meets its contract: the sum is that of the bytes passed, and the column is filled up to there.
-- Assumes nothing.
use mathlib.Core.Path.{◌≡◌}
use Prim.Native.Nat.{◌*◌, ◌-◌, ◌≤◌}
use Rattle.simulation.specs.Sum.{sum}
use Rattle.loading.specs.Fill.{FormFilled, run}
use Rattle.loading.proofs.put_sums.Given as goal

abbrev pub invariant-loop-i : goal.invariant-loop-i
invariant-loop-i l =
    (l.i ≤ l.n) × (l.sum ≡ sum l.i (run l.s l.from l.step)) × (l.sum ≤ 255 * l.i) × FormFilled l.initial.form l.to l.i (λ k. sum k (run l.s l.from l.step)) l.form

abbrev pub decreases-loop-i : goal.decreases-loop-i
decreases-loop-i l = l.n - l.i
