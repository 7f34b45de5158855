-- `items::items::sum_of` meets its contract. The loop's invariant: total is the sum of the bytes passed, at most 255 for each.
-- Assumes nothing.
use Rattle.simulation.specs.Sum.{sum}
use Rattle.layout.specs.Bytes.{byte}
use mathlib.Core.Path.{◌≡◌}
use Prim.Native.Nat.{◌+◌, ◌*◌, ◌≤◌}
use Rattle.items.proofs.items.sum_of.Given as goal

abbrev pub invariant-loop-i : goal.invariant-loop-i
invariant-loop-i l = (l.total ≡ sum l.i (λ k. byte l.s (l.from + l.step * k))) × (l.total ≤ 255 * l.i)
