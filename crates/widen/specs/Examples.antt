-- The table P of 01 in both layouts, and what widening gives: with room, without, and of bytes cut short.
-- Assumes nothing.
use Rattle.std.specs.Prelude.{List, [], ◌∷◌, ◌++◌, ℕ, take, replicate}
use Rattle.answer.specs.Numbers.{refusal, with_written}
use Rattle.widen.specs.Widened.{Widening}

abbrev pub P_old : List ℕ
P_old =
    0x02 ∷ 0x0A ∷ 0x14
    ∷ 0x03 ∷ 0x01 ∷ 0x01 ∷ 0x00
    ∷ 0x02 ∷ 0x00 ∷ 0x0A ∷ 0x02 ∷ 0x14 ∷ 0x01
    ∷ 0x03 ∷ 0x00 ∷ 0x01 ∷ 0x03 ∷ 0x00 ∷ 0x02 ∷ 0x01 ∷ 0x00 ∷ 0x01 ∷ 0x01 ∷ 0x00
    ∷ []

abbrev pub P_wide : List ℕ
P_wide =
    0x02 ∷ 0x00 ∷ 0x0A ∷ 0x00 ∷ 0x14 ∷ 0x00
    ∷ 0x03 ∷ 0x01 ∷ 0x01 ∷ 0x00
    ∷ 0x02 ∷ 0x00 ∷ 0x0A ∷ 0x00 ∷ 0x02 ∷ 0x14 ∷ 0x00 ∷ 0x01
    ∷ 0x03 ∷ 0x00 ∷ 0x01 ∷ 0x03 ∷ 0x00 ∷ 0x02 ∷ 0x01 ∷ 0x00 ∷ 0x01 ∷ 0x01 ∷ 0x00
    ∷ []

-- a lent buffer of so many bytes
abbrev pub lent : ℕ → List ℕ
lent n = replicate n 0xEE

-- the old bytes, how many bytes are lent, and the result
abbrev pub rows : List (List ℕ × ℕ × Widening)
rows =
    (P_old, 30, record { answer = with_written 29 (refusal 0 0 0); out = P_wide ++ (0xEE ∷ []) })
    ∷ (P_old, 29, record { answer = with_written 29 (refusal 0 0 0); out = P_wide })
    ∷ (P_old, 28, record { answer = refusal 27 0 29; out = lent 28 })
    ∷ (take 23 P_old, 30, record { answer = refusal 1 1 0; out = lent 30 })
    ∷ []
