-- The relation of a round by the ranks of its pairs (01, "Keeping, ranking, sharing out").
-- Assumes nothing.
use Rattle.std.specs.Prelude.{Bool, ◌||◌, ℕ, eqb, leb}

-- a pair of this rank is kept by the round before round r: it is never missing, or first missing in round r or later
abbrev pub lasts : ℕ → ℕ → Bool
lasts r rank = eqb rank 0 || leb r rank
