-- The transitions of a table of valid shape, numbered over all states, and the lists of their entries.
-- Assumes nothing.
use mathlib.Core.Path.{◌≡◌, sym, subst}
use mathlib.Core.List.{List, [], map}
use Prim.Native.Nat.{ℕ, ◌<◌}
use lib.ListN.{length, get_or, length-map, get_or-map}
use Rattle.simulation.specs.Table.{Entry, Transition, Table, states_of, no_transition}
use Rattle.form.specs.Items.{all_transitions}
use Rattle.form.specs.Valid.{Listed, Distribution, Shaped}
use Rattle.form.proofs.Lists.{concat_find}

module _ (M : Table) where
  abbrev pub numbered : ℕ → Transition
  numbered j = get_or (all_transitions M) j no_transition

  abbrev pub lists : List (List Entry)
  lists = map (λ (m : Transition). m.entries) (all_transitions M)

  pub list_is : (j : ℕ) → get_or lists j [] ≡ (numbered j).entries
  list_is j = get_or-map (λ (m : Transition). m.entries) (all_transitions M) j no_transition

  pub lists_many : length lists ≡ length (all_transitions M)
  lists_many = length-map (all_transitions M) (λ (m : Transition). m.entries)

  module _ (v : Shaped M) (j : ℕ) (l : j < length (all_transitions M)) where
    pub listed_at : Listed M.codes (numbered j).code
    listed_at =
        let f = concat_find no_transition M.states j l in
        subst (λ (m : Transition). Listed M.codes m.code) (sym f.is) (v.listed f.place f.within f.place-below f.within-below)

    pub distribution-at : Distribution (states_of M) (numbered j)
    distribution-at =
        let f = concat_find no_transition M.states j l in
        subst (Distribution (states_of M)) (sym f.is) (v.distribution f.place f.within f.place-below f.within-below)
