-- `items::items::listed` meets its contract. The loop's invariant: the codes below low are below the one looked for, those from high on above it.
-- Assumes nothing.
use Prim.Native.Nat.{ℕ, ◌-◌, ◌≤◌, ◌<◌}
use Rattle.layout.specs.Bytes.{code}
use Rattle.items.proofs.items.listed.Given as goal

abbrev pub invariant-loop-low : goal.invariant-loop-low
invariant-loop-low l = record {
  meet : l.low ≤ l.high;
  within : l.high ≤ l.n;
  below : (i : ℕ) → i < l.low → code l.s.width l.s.bytes.now i < l.c;
  above : (i : ℕ) → l.high ≤ i → i < l.n → l.c < code l.s.width l.s.bytes.now i;
}

abbrev pub decreases-loop-low : goal.decreases-loop-low
decreases-loop-low l = l.high - l.low
