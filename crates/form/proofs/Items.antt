-- The transitions of one state are no more than all transitions, and their entries no more than all entries.
-- Assumes nothing.
use mathlib.Core.Path.{subst}
use mathlib.Core.List.{List}
use Prim.Native.Nat.{ℕ, ◌≤◌}
use lib.ListN.{length}
use Rattle.simulation.specs.Sum.{sum}
use Rattle.simulation.specs.Table.{Entry, Transition, Table, steps, no_transition, transition}
use Rattle.form.specs.Items.{all_transitions, all_entries}
use Rattle.form.proofs.Lists.{size-most, flat_sum, flat_most}

module _ (M : Table) (s : ℕ) where
  pub transitions-most : length (steps M s) ≤ length (all_transitions M)
  transitions-most = size-most M.states s

  pub entries-most : sum (length (steps M s)) (λ k. length (transition M s k).entries) ≤ length (all_entries M)
  entries-most =
      let entries : Transition → List Entry = λ m. m.entries in
      subst (λ (n : ℕ). n ≤ length (all_entries M)) (flat_sum entries no_transition (steps M s)) (flat_most entries M.states s)
