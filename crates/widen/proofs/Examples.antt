-- Widening gives what the rows of specs/Examples say, and both layouts of P there hold that table.
-- Assumes nothing.
use mathlib.Core.Path.{◌≡◌, refl}
use mathlib.Core.List.{List, map}
use Prim.Native.Nat.{ℕ}
use Rattle.simulation.specs.Limits.{narrow, wide}
use Rattle.simulation.specs.Examples.{P}
use Rattle.layout.specs.Bytes.{accepted, decode_as}
use Rattle.widen.specs.Widened.{Widening, widened, widening}
use Rattle.widen.specs.Examples.{P_old, P_wide, lent, rows}

pub widening_examples : map (λ (r : List ℕ × ℕ × Widening). widening r.0 (lent r.1)) rows ≡ map (λ (r : List ℕ × ℕ × Widening). r.2) rows
unfolding decode_as widened
widening_examples = refl

pub P_examples : (decode_as narrow P_old ≡ accepted P) × (decode_as wide P_wide ≡ accepted P)
unfolding decode_as
P_examples = (refl, refl)
