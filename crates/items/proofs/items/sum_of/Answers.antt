-- `items::items::sum_of` meets its contract. The loop's invariant: total is the sum of the bytes passed, at most 255 for each.
-- Assumes nothing.
use mathlib.Core.Path.{◌∙◌, ap}
use Prim.Native.Nat.{ℕ, ◌+◌}
use native.Mathlib.Omega.{arith}
use Rattle.simulation.proofs.Finite.Sums.{sum_more, sum-none}
use Rattle.items.proofs.items.sum_of.Goals as goal

pub loop-i-init : goal.loop-i-init
loop-i-init c = (sum-none _, omega arith)

pub loop-i-preserved : goal.loop-i-preserved
loop-i-preserved c =
    let l = c.loop-i in
    (ap (λ (b : ℕ). l.total + b) c.byte_at-total.ensures.is ∙ sum_more l.i _ l.invariant.0, omega arith)
