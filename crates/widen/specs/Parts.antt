-- The wide bytes out of those of the old layout: a high byte of 0 after each code, and after the count of codes; all else as it stands.
-- Assumes nothing.
use Rattle.std.specs.Prelude.{List, [], ◌∷◌, ◌++◌, ℕ, ◌+◌, ◌*◌}
use Rattle.simulation.specs.Sum.{below, concat}
use Rattle.simulation.specs.Limits.{narrow}
use Rattle.layout.specs.Bytes.{byte, actions, states_start, states, transitions_start, transitions, entries_start, entries}

module _ (s : List ℕ) where
  -- n bytes from a place on
  abbrev pub run_of : (from n : ℕ) → List ℕ
  run_of from n = below from n (byte s)

  -- a code, and the transition numbered i of those from a place on, with a high byte of 0
  abbrev pub wide_code : ℕ → List ℕ
  wide_code i = byte s i ∷ 0 ∷ []

  abbrev pub wide_transition : (from i : ℕ) → List ℕ
  wide_transition from i = byte s (from + 2 * i) ∷ 0 ∷ byte s (from + 2 * i + 1) ∷ []

  -- the first n bytes, in two bytes each
  unfoldable pub wide_codes : ℕ → List ℕ
  unfolding below concat
  wide_codes n = concat (below 0 n wide_code)

  -- n transitions from a place on, a code and a size
  unfoldable pub wide_transitions : (from n : ℕ) → List ℕ
  unfolding below concat
  wide_transitions from n = concat (below 0 n (wide_transition from))

  -- the whole table: section 1 with its count, section 2 and the count of section 3, its transitions, section 4
  unfoldable pub wide_bytes : List ℕ
  unfolding wide_codes wide_transitions below
  wide_bytes =
      wide_codes (1 + actions narrow s)
      ++ run_of (states_start narrow s) (1 + states narrow s + 2)
      ++ wide_transitions (transitions_start narrow s + 2) (transitions narrow s)
      ++ run_of (entries_start narrow s) (2 + 3 * entries narrow s)
