-- The limits of 01, as 02 moves them: the largest counts of a table's parts, and the largest total of a transition's weights.
-- Assumes nothing.
use Rattle.std.specs.Prelude.{ℕ, ◌*◌}

-- the bytes of a code in the old layout and in the wide one
abbrev pub narrow : ℕ
narrow = 1

abbrev pub wide : ℕ
wide = 2

abbrev pub most_codes : ℕ
most_codes = 1024

abbrev pub most_states : ℕ
most_states = 128

-- of all states together
abbrev pub most_transitions : ℕ
most_transitions = 256

-- a state's count of transitions is one byte
abbrev pub most_of_state : ℕ
most_of_state = 255

abbrev pub most_entries : ℕ
most_entries = 512

abbrev pub most_total : ℕ
most_total = 65535

-- the pairs of a state of either table
abbrev pub most_pairs : ℕ
most_pairs = most_states * most_states

-- a check of so few pairs works in short lists of its own
abbrev pub few_pairs : ℕ
few_pairs = 600

-- the bytes of the longest tree that is written
abbrev pub most_tree_bytes : ℕ
most_tree_bytes = 65535
