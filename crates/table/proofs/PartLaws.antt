-- Counts and places of accepted bytes, as a layout has them.
-- Assumes nothing.
use mathlib.Core.Path.{◌≡◌, sym, ◌∙◌, ap}
use mathlib.Core.List.{List}
use Prim.Native.Nat.{ℕ, ◌+◌, ◌*◌, ◌≤◌}
use lib.ListN.{length}
use Rattle.simulation.specs.Limits.{most_codes, most_states, most_transitions, most_entries}
use Rattle.layout.specs.Bytes.{actions, states_start, states, transitions_start, transitions, entries_start, entries, refusal}
use Rattle.layout.proofs.Bounds.{passes, accepted_bounds, transitions_start_is, entries_start_is, end_is}
use Rattle.table.specs.declared.parts.Layout.{Layout}
use Rattle.table.specs.Layouts.{layout}

pub record Parts (w : ℕ) (s : List ℕ) (t : Layout) : Type 0 where
  pub actions_are : t.actions ≡ actions w s
  pub states_are : t.states.count ≡ states w s
  pub transitions-are : t.transitions.count ≡ transitions w s
  pub entries-are : t.entries.count ≡ entries w s
  pub counts-from : t.states.at ≡ states_start w s + 1
  pub transitions-from : t.transitions.at ≡ transitions_start w s + 2
  pub entries_from : t.entries.at ≡ entries_start w s + 2
  pub after_states : transitions_start w s ≡ states_start w s + 1 + states w s
  pub after_transitions : entries_start w s ≡ transitions_start w s + 2 + (w + 1) * transitions w s
  pub at-end : entries_start w s + 2 + 3 * entries w s ≡ length s
  pub few-actions : actions w s ≤ most_codes
  pub few_states : states w s ≤ most_states
  pub few_transitions : transitions w s ≤ most_transitions
  pub few_entries : entries w s ≤ most_entries

pub parts-known : (w : ℕ) (s : List ℕ) (t : Layout) → refusal w s ≡ 0 → t ≡ layout w s → Parts w s t
parts-known w s t e q =
    let b = accepted_bounds w s e in
    record {
      actions_are = ap (λ (t : Layout). t.actions) q;
      states_are = ap (λ (t : Layout). t.states.count) q;
      transitions-are = ap (λ (t : Layout). t.transitions.count) q;
      entries-are = ap (λ (t : Layout). t.entries.count) q;
      counts-from = ap (λ (t : Layout). t.states.at) q;
      transitions-from = ap (λ (t : Layout). t.transitions.at) q;
      entries_from = ap (λ (t : Layout). t.entries.at) q;
      after_states = transitions_start_is w s;
      after_transitions = entries_start_is w s;
      at-end = sym (end_is w s) ∙ (passes w s e).of_end;
      few-actions = b.of_actions.few;
      few_states = b.of_states.few;
      few_transitions = b.of_transitions.few;
      few_entries = b.of_entries.few;
    }
