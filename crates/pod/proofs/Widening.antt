-- A table widened is the same table: the bytes that a done widening wrote hold it, so the check finds the old table's ranks and trees, on either side.
-- Assumes nothing.
use mathlib.Core.Path.{◌≡◌, refl, ap, ◌∙◌}
use mathlib.Core.Bool.{Bool, true, false}
use mathlib.Core.List.{List}
use Prim.Native.Nat.{ℕ}
use native.Mathlib.Omega.{arith}
use lib.Dec.{ltb}
use lib.ListN.{length, take, drop}
use lib.Seq.{take_at}
use Rattle.simulation.specs.Limits.{narrow}
use Rattle.simulation.specs.Table.{Table, steps}
use Rattle.simulation.specs.Support.{supported}
use Rattle.layout.specs.Bytes.{Octets, Decoded, accepted, decode_as, decode}
use Rattle.layout.specs.Encode.{encode}
use Rattle.buffer.specs.Buffer.{over}
use Rattle.answer.specs.Numbers.{refusal, with_written}
use Rattle.widen.specs.Widened.{Widening, widened, widening}
use Rattle.widen.proofs.Same.{widened_decodes}
use Rattle.compare.specs.Outcome.{Buffers, Result}
use Rattle.compare.specs.Condition.{Ready}
use Rattle.pod.specs.Check.{contract, Checked}
use Rattle.pod.specs.Demands.{Demand2, Demand3}
use Rattle.pod.proofs.Demands.{demand_2, demand_3}

-- the bytes that are written into `out` for those of an old table
abbrev pub widened-bytes : (old out : List ℕ) → List ℕ
widened-bytes old out = take (widening old out).answer.written (widening old out).out

module _ (old out : List ℕ) (octets : Octets old) (M : Table) (e : decode_as narrow old ≡ accepted M) (done : (widening old out).answer.number ≡ 0) where
  filled : widening old out ≡ record { answer = with_written (length (encode M)) (refusal 0 0 0); out = over (encode M) out }
  unfolding widened
  filled = ap (λ (d : Decoded). widened d out) e ∙ go (ltb (length out) (length (encode M))) refl
    where
      go : (c : Bool) → ltb (length out) (length (encode M)) ≡ c → widened (accepted M) out ≡ record { answer = with_written (length (encode M)) (refusal 0 0 0); out = over (encode M) out }
      go true p =
          let short : (widening old out).answer.number ≡ 27 = ap (λ (d : Decoded). (widened d out).answer.number) e ∙ rw p in
          absurd (omega arith)
      go false p = rw p

  -- they hold the table that the old bytes held
  pub holds_the_same : decode (widened-bytes old out) ≡ accepted M
  holds_the_same =
      ap (λ (w : Widening). decode (take w.answer.written w.out)) filled
      ∙ ap decode (take_at (encode M) (drop (length (encode M)) out) (length (encode M)) refl)
      ∙ widened_decodes old octets M e

  -- ranks, verdict, flows and trees of a check with them are those of the old table
  module _ (other : List ℕ) (N : Table) (f : decode other ≡ accepted N) (s t : ℕ) (b : Buffers) (r : Result) where
    pub widened-first : Checked (widened-bytes old out) other s t b r → Ready (supported M) (contract M N) s t b
        → Demand2 (supported M) (contract M N) s t b r (length (steps N t)) × Demand3 (supported M) (contract M N) s t b r
    widened-first h ready =
        (demand_2 (widened-bytes old out) other s t b r h M N holds_the_same f ready, demand_3 (widened-bytes old out) other s t b r h M N holds_the_same f ready)

    pub widened-second : Checked other (widened-bytes old out) s t b r → Ready (supported N) (contract N M) s t b
        → Demand2 (supported N) (contract N M) s t b r (length (steps M t)) × Demand3 (supported N) (contract N M) s t b r
    widened-second h ready =
        (demand_2 other (widened-bytes old out) s t b r h N M f holds_the_same ready, demand_3 other (widened-bytes old out) s t b r h N M f holds_the_same ready)
