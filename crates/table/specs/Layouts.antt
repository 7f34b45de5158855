-- Where the parts of a table lie in its bytes, and what reading them returns.
-- Assumes nothing.
use Rattle.std.specs.Prelude.{◌≡◌, List, ℕ, ◌+◌, ◌*◌, length, Result, MatchResult}
use Rattle.simulation.specs.Sum.{concat}
use Rattle.simulation.specs.Table.{Table, states_of}
use Rattle.form.specs.Items.{all_transitions, all_entries}
use Rattle.layout.specs.declared.refusals.Refusal.{Refusal}
use Rattle.layout.specs.Bytes.{Decoded, refused, accepted, actions, states_start, states, transitions_start, transitions, entries_start, entries}
use Rattle.layout.specs.Refusals.{number_of}
use Rattle.table.specs.declared.parts.Items.{Items}
use Rattle.table.specs.declared.parts.Layout.{Layout}

-- n items from the place a on
abbrev pub items : (n a : ℕ) → Items
items n a = record { count = n; at = a }

-- by the places of the bytes
abbrev pub layout : ℕ → List ℕ → Layout
layout w s =
    record {
      actions = actions w s;
      states = items (states w s) (states_start w s + 1);
      transitions = items (transitions w s) (transitions_start w s + 2);
      entries = items (entries w s) (entries_start w s + 2);
    }

-- by the table that they hold
unfoldable pub layout_of : ℕ → Table → Layout
unfolding concat
layout_of w M =
    let counts : ℕ = w + w * length M.codes + 1 in
    let transitions : ℕ = counts + states_of M + 2 in
    record {
      actions = length M.codes;
      states = items (states_of M) counts;
      transitions = items (length (all_transitions M)) transitions;
      entries = items (length (all_entries M)) (transitions + (w + 1) * length (all_transitions M) + 2);
    }

-- of bytes that decode to d, where a code takes w bytes: the refusal with their number, or where the parts of their table lie
abbrev pub Answers : ℕ → Decoded → Result Layout Refusal → Type 0
Answers w d r = MatchResult r (λ t. (M : Table) × (d ≡ accepted M) × (t ≡ layout_of w M)) (λ e. d ≡ refused (number_of e))
