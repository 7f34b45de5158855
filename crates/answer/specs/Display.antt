-- The part of a buffer that the display is handed.
-- Assumes nothing.
use Rattle.std.specs.Prelude.{cond, List, [], ℕ, leb, eqb, length, take}

-- the first len bytes, none where there are fewer
abbrev pub first_bytes : List ℕ → ℕ → List ℕ
first_bytes s len = cond (leb len (length s)) (take len s) []

-- of the flow buffer for a kept pair, of the tree buffer for another
unfoldable pub filled_part : (flow tree : List ℕ) (rank len : ℕ) → List ℕ
filled_part flow tree rank len = cond (eqb rank 0) (first_bytes flow len) (first_bytes tree len)
