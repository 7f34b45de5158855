-- A table's bytes (01, "A table in bytes"; 02, E6): four sections in their order, each after its count.
-- Assumes nothing.
use Rattle.std.specs.Prelude.{List, [], ◌∷◌, ◌++◌, map, ℕ, zero, suc, ◌/◌, ◌%◌, length}
use Rattle.simulation.specs.Sum.{concat}
use Rattle.simulation.specs.Table.{Entry, Transition, Table, states_of}
use Rattle.form.specs.Items.{all_transitions, all_entries}
use Rattle.simulation.specs.Limits.{wide}

-- a field of w bytes, low byte first
unfoldable pub field_bytes : (w : ℕ) → ℕ → List ℕ
field_bytes zero n = []
field_bytes (suc w) n = n % 256 ∷ field_bytes w (n / 256)

-- one of two bytes
abbrev pub half_bytes : ℕ → List ℕ
half_bytes n = n % 256 ∷ n / 256 ∷ []

abbrev pub encode_entry : Entry → List ℕ
encode_entry e = e.target ∷ half_bytes e.weight

module _ (M : Table) where
  abbrev pub states_section : List ℕ
  states_section = states_of M ∷ map length M.states

  abbrev pub entries_section : List ℕ
  entries_section = half_bytes (length (all_entries M)) ++ concat (map encode_entry (all_entries M))

-- where a code takes w bytes
module _ (w : ℕ) where
  abbrev pub encode_transition : Transition → List ℕ
  encode_transition m = field_bytes w m.code ++ (length m.entries ∷ [])

  module _ (M : Table) where
    abbrev pub actions_section : List ℕ
    actions_section = field_bytes w (length M.codes) ++ concat (map (field_bytes w) M.codes)

    abbrev pub transitions_section : List ℕ
    transitions_section = half_bytes (length (all_transitions M)) ++ concat (map encode_transition (all_transitions M))

    unfoldable pub encode_as : List ℕ
    unfolding concat field_bytes
    encode_as = actions_section ++ states_section M ++ transitions_section ++ entries_section M

-- in the wide layout
abbrev pub encode : Table → List ℕ
encode = encode_as wide
