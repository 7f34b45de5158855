-- Decoding gives what the rows of specs/Examples say, in both layouts.
-- Assumes nothing.
use mathlib.Core.Path.{◌≡◌, refl}
use mathlib.Core.List.{List, map}
use Prim.Native.Nat.{ℕ}
use Rattle.simulation.specs.Sum.{concat}
use Rattle.layout.specs.Bytes.{Decoded, decode_as}
use Rattle.simulation.specs.Limits.{narrow, wide}
use Rattle.layout.specs.Encode.{field_bytes}
use Rattle.layout.specs.Examples.{rows, wide_rows}

-- each row decodes as it says
abbrev Right : ℕ → List (List ℕ × Decoded) → Type 0
Right w rs = map (λ (r : List ℕ × Decoded). decode_as w r.0) rs ≡ map (λ (r : List ℕ × Decoded). r.1) rs

pub narrow_examples : Right narrow (rows narrow)
unfolding decode_as field_bytes concat
narrow_examples = refl

pub wide_examples : Right wide (rows wide)
unfolding decode_as field_bytes concat
wide_examples = refl

pub wide-only_examples : Right wide wide_rows
unfolding decode_as field_bytes concat
wide-only_examples = refl
