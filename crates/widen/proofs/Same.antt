-- A table keeps its meaning when it is widened: what the old bytes hold is valid in the wide layout, and its wide encoding decodes to it.
-- Assumes nothing.
use mathlib.Core.Path.{◌≡◌}
use mathlib.Core.List.{List}
use Prim.Native.Nat.{ℕ}
use native.Mathlib.Omega.{arith}
use Rattle.simulation.specs.Limits.{narrow, wide}
use Rattle.simulation.specs.Table.{Table}
use Rattle.form.specs.Valid.{Valid}
use Rattle.layout.specs.Bytes.{Octets, accepted, decode_as, decode}
use Rattle.layout.specs.Encode.{encode}
use Rattle.layout.proofs.Accepted.{accepted-valid}
use Rattle.layout.proofs.RoundTrip.{decode-encode}

pub valid-wide : (M : Table) → Valid narrow M → Valid wide M
valid-wide M v =
    let c = v.codes in
    record {
      codes = record { few = c.few; counted = omega (arith, c.counted); small = λ i l. omega (arith, c.small i l); ascending = c.ascending };
      shape = v.shape;
      few_each = v.few_each;
    }

pub widened_decodes : (old : List ℕ) → Octets old → (M : Table) → decode_as narrow old ≡ accepted M → decode (encode M) ≡ accepted M
widened_decodes old bytes M h = decode-encode wide M (valid-wide M (accepted-valid narrow old bytes M h))
