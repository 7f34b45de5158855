-- The tables of 01 in bytes, with what decoding makes of them and of bytes beside them, and a row for each edge of a rule, in both layouts.
-- Assumes nothing.
use Rattle.std.specs.Prelude.{List, [], ◌∷◌, ◌++◌, map, ℕ, ◌+◌, ◌-◌, ◌/◌, length, take, replicate}
use Rattle.simulation.specs.Limits.{narrow, wide, most_codes, most_states, most_total}
use Rattle.simulation.specs.Sum.{concat}
use Rattle.simulation.specs.Table.{Transition, Table}
use Rattle.simulation.specs.Examples.{P, C}
use Rattle.layout.specs.Bytes.{Decoded, refused, accepted}
use Rattle.layout.specs.Encode.{field_bytes, half_bytes}

-- one state without transitions
abbrev pub smallest : Table
smallest = record { codes = []; states = [] ∷ [] }

abbrev loop : ℕ → Transition
loop w = record { code = 5; entries = record { target = 0; weight = w } ∷ [] }

abbrev loops : List Transition → Table
loops ms = record { codes = 5 ∷ []; states = ms ∷ [] }

-- a transition into three states, with these weights
abbrev watching : (a b c : ℕ) → Table
watching a b c = record {
  codes = 5 ∷ [];
  states = (record { code = 5; entries = record { target = 0; weight = a } ∷ record { target = 1; weight = b } ∷ record { target = 2; weight = c } ∷ [] } ∷ []) ∷ [] ∷ [] ∷ [];
}

-- where a code takes w bytes
module _ (w : ℕ) where
  abbrev f : ℕ → List ℕ
  f = field_bytes w

  -- P and C, which differ in the first weight, and the same with other codes listed
  abbrev with_codes : (first second weight : ℕ) → List ℕ
  with_codes a b n =
      f 2 ++ f a ++ f b ++ (3 ∷ 1 ∷ 1 ∷ 0 ∷ 2 ∷ 0 ∷ []) ++ f 0x0A ++ (2 ∷ []) ++ f 0x14 ++ (1 ∷ 3 ∷ 0 ∷ 1 ∷ n ∷ 0 ∷ 2 ∷ 1 ∷ 0 ∷ 1 ∷ 1 ∷ 0 ∷ [])

  abbrev pub P_bytes : List ℕ
  P_bytes = with_codes 0x0A 0x14 3

  abbrev pub C_bytes : List ℕ
  C_bytes = with_codes 0x0A 0x14 1

  abbrev pub smallest_bytes : List ℕ
  smallest_bytes = f 0 ++ (1 ∷ 0 ∷ 0 ∷ 0 ∷ 0 ∷ 0 ∷ [])

  -- n states without transitions
  abbrev states_only : ℕ → List ℕ
  states_only n = f 0 ++ (n ∷ replicate n 0) ++ (0 ∷ 0 ∷ 0 ∷ 0 ∷ [])

  -- states with so many transitions, and so many in all, where 5 is the one code listed
  abbrev counts : List ℕ → ℕ → List ℕ
  counts ns n = f 1 ++ f 5 ++ (length ns ∷ ns) ++ half_bytes n

  -- one state with a transition for each pair (code, size), and these entries
  abbrev one_state : List (ℕ × ℕ) → List ℕ → List ℕ
  one_state ts es = counts (length ts ∷ []) (length ts) ++ concat (map (λ (t : ℕ × ℕ). f t.0 ++ (t.1 ∷ [])) ts) ++ (length es / 3 ∷ 0 ∷ es)

  -- three states, the first with one transition, which has these entries
  abbrev watched : List ℕ → List ℕ
  watched es = counts (1 ∷ 0 ∷ 0 ∷ []) 1 ++ f 5 ++ (length es / 3 ∷ length es / 3 ∷ 0 ∷ es)

  -- bytes, and what they decode to
  abbrev pub rows : List (List ℕ × Decoded)
  rows =
      (P_bytes, accepted P)
      ∷ (C_bytes, accepted C)
      ∷ (smallest_bytes, accepted smallest)
      ∷ ([], refused 1)
      ∷ (take (length P_bytes - 1) P_bytes, refused 1)
      ∷ (P_bytes ++ 0 ∷ [], refused 2)
      ∷ (with_codes 0x14 0x0A 3, refused 3)
      -- limits
      ∷ (with_codes 0x0A 0x0A 3, refused 3)
      ∷ (states_only 0, refused 4)
      ∷ (states_only most_states, accepted (record { codes = []; states = replicate most_states [] }))
      ∷ (states_only (most_states + 1), refused 4)
      -- 255 transitions of one state, 256 of two, and 257
      ∷ (counts (255 ∷ []) 255, refused 1)
      ∷ (counts (255 ∷ 1 ∷ []) 256, refused 1)
      ∷ (counts (255 ∷ 2 ∷ []) 257, refused 5)
      ∷ (counts (1 ∷ []) 0 ++ half_bytes 0, refused 5)
      ∷ (one_state ((5, 1) ∷ []) [], refused 7)
      ∷ (one_state ((5, 1) ∷ []) (0 ∷ 255 ∷ 255 ∷ []), accepted (loops (loop most_total ∷ [])))
      ∷ (counts (1 ∷ 0 ∷ []) 1 ++ f 5 ++ (2 ∷ 2 ∷ 0 ∷ 0 ∷ 255 ∷ 255 ∷ 1 ∷ 1 ∷ 0 ∷ []), refused 10)
      -- two equal transitions, and two equal targets
      ∷ (one_state ((5, 1) ∷ (5, 1) ∷ []) (0 ∷ 1 ∷ 0 ∷ 0 ∷ 1 ∷ 0 ∷ []), accepted (loops (loop 1 ∷ loop 1 ∷ [])))
      ∷ (one_state ((5, 2) ∷ []) (0 ∷ 1 ∷ 0 ∷ 0 ∷ 1 ∷ 0 ∷ []), refused 9)
      -- the order of checks
      ∷ (f 0 ++ ((most_states + 1) ∷ []), refused 4)
      ∷ (one_state ((6, 0) ∷ []) [], refused 6)
      ∷ (one_state ((5, 0) ∷ (6, 0) ∷ []) [], refused 8)
      ∷ (one_state ((5, 1) ∷ []) (1 ∷ 0 ∷ 0 ∷ []), refused 9)
      ∷ (one_state ((5, 1) ∷ []) (0 ∷ 0 ∷ 0 ∷ []), refused 10)
      -- weights of 0: first and last, beside the largest total, before what is above it, and all of them
      ∷ (watched (0 ∷ 0 ∷ 0 ∷ 1 ∷ 3 ∷ 0 ∷ 2 ∷ 0 ∷ 0 ∷ []), accepted (watching 0 3 0))
      ∷ (watched (0 ∷ 0 ∷ 0 ∷ 1 ∷ 255 ∷ 255 ∷ 2 ∷ 0 ∷ 0 ∷ []), accepted (watching 0 most_total 0))
      ∷ (watched (0 ∷ 255 ∷ 255 ∷ 1 ∷ 0 ∷ 0 ∷ 2 ∷ 1 ∷ 0 ∷ []), refused 10)
      ∷ (watched (0 ∷ 0 ∷ 0 ∷ 1 ∷ 0 ∷ 0 ∷ 2 ∷ 0 ∷ 0 ∷ []), refused 10)
      -- targets ascend over them too, and each entry is looked at before the total, which comes before the next transition
      ∷ (watched (0 ∷ 1 ∷ 0 ∷ 2 ∷ 0 ∷ 0 ∷ 1 ∷ 1 ∷ 0 ∷ []), refused 9)
      ∷ (watched (0 ∷ 0 ∷ 0 ∷ 1 ∷ 0 ∷ 0 ∷ 1 ∷ 0 ∷ 0 ∷ []), refused 9)
      ∷ (one_state ((5, 1) ∷ (5, 1) ∷ []) (0 ∷ 0 ∷ 0 ∷ 1 ∷ 1 ∷ 0 ∷ []), refused 10)
      ∷ []

-- one state, and two codes of two bytes each
abbrev two_codes : (a b c d : ℕ) → List ℕ
two_codes a b c d = 2 ∷ 0 ∷ a ∷ b ∷ c ∷ d ∷ 1 ∷ 0 ∷ 0 ∷ 0 ∷ 0 ∷ 0 ∷ []

-- in the wide layout alone
abbrev pub wide_rows : List (List ℕ × Decoded)
wide_rows =
    -- the count's own rule comes before the bytes of the section
    (half_bytes most_codes, refused 1)
    ∷ (half_bytes (most_codes + 1), refused 3)
    -- cut in the middle of the count and of a code
    ∷ (2 ∷ [], refused 1)
    ∷ (take 5 (P_bytes wide), refused 1)
    -- the high byte counts first
    ∷ (two_codes 255 0 0 1, accepted (record { codes = 255 ∷ 256 ∷ []; states = [] ∷ [] }))
    ∷ (two_codes 0 1 255 0, refused 3)
    ∷ (two_codes 0 255 255 255, accepted (record { codes = 65280 ∷ 65535 ∷ []; states = [] ∷ [] }))
    -- an old table is no wide one
    ∷ (P_bytes narrow, refused 3)
    ∷ []
