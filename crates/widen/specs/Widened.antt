-- What widening does with a table in the old layout (02, E6).
-- Assumes nothing.
use Rattle.std.specs.Prelude.{cond, List, ℕ, ltb, length}
use Rattle.simulation.specs.Limits.{narrow}
use Rattle.layout.specs.Bytes.{Decoded, refused, accepted, decode_as}
use Rattle.layout.specs.Encode.{encode_as, encode}
use Rattle.buffer.specs.Buffer.{over}
use Rattle.answer.specs.Numbers.{refusal, with_written}
use Rattle.answer.specs.declared.answer.Answer.{Answer}

-- the answer, and the lent buffer as it is left
pub record Widening : Type 0 where
  pub answer : Answer
  pub out : List ℕ

-- a faulty table is refused as table 1, a buffer too short for the wide bytes with 27 and their length; else they stand at its start
unfoldable pub widened : Decoded → List ℕ → Widening
unfolding encode_as
widened (refused k) out = record { answer = refusal k 1 0; out = out }
widened (accepted M) out =
    cond (ltb (length out) (length (encode M)))
    (record { answer = refusal 27 0 (length (encode M)); out = out })
    (record { answer = with_written (length (encode M)) (refusal 0 0 0); out = over (encode M) out })

-- from the bytes in the old layout on
abbrev pub widening : (old out : List ℕ) → Widening
widening old out = widened (decode_as narrow old) out
