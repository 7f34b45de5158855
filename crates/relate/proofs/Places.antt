-- Places of a transition of a loaded form.
-- Assumes nothing.
use mathlib.Core.Path.{◌≡◌, sym, ap, subst}
use mathlib.Core.List.{List}
use Prim.Native.Nat.{ℕ, ◌<◌, ◌≤◌}
use native.Mathlib.Omega.{arith}
use lib.ListN.{length, get_or}
use Rattle.simulation.specs.Limits.{most_states}
use Rattle.simulation.specs.Fit.{Positive}
use Rattle.simulation.specs.Table.{weights, targets, states_of}
use Rattle.form.specs.Form.{Loaded, table_of, transitions_of, transition_at}
use Rattle.form.proofs.FormLaws.{limited_at, limits, distribution-at, positive-at, targets-length, weights-length}

module _ (f : List ℕ) (j : ℕ) (l : Loaded f) (h : j < transitions_of f) where
  pub few_places : length (transition_at f j).entries ≤ most_states
  few_places = omega (arith, (limited_at f l j h).few, weights-length (transition_at f j))

  module _ (ts : List ℕ) (e : ts ≡ targets (transition_at f j)) where
    pub targets-count : length ts ≡ length (transition_at f j).entries
    targets-count = omega (arith, ap length e, targets-length (transition_at f j))

    pub target-state : (i : ℕ) → i < length ts → get_or ts i 0 < states_of (table_of f)
    target-state i lt = omega (arith, ap (λ (l : List ℕ). get_or l i 0) e, (distribution-at f l j h).in_range i (omega (arith, targets-count)))

    pub target_small : (i : ℕ) → i < length ts → get_or ts i 0 < most_states
    target_small i lt = omega (arith, target-state i lt, (limits f l).states-few)

  pub weights-count : (ws : List ℕ) → ws ≡ weights (transition_at f j) → length ws ≡ length (transition_at f j).entries
  weights-count ws e = omega (arith, ap length e, weights-length (transition_at f j))

  pub weights-positive : (ws : List ℕ) → ws ≡ weights (transition_at f j) → Positive ws
  weights-positive ws e = subst Positive (sym e) (positive-at f l j h)

  -- a place
  module _ (i : ℕ) (lt : i < length (transition_at f j).entries) where
    pub place-small : i < most_states
    place-small = omega (arith, few_places)

    pub in_targets : (ts : List ℕ) → ts ≡ targets (transition_at f j) → i < length ts
    in_targets ts e = omega (arith, targets-count ts e)

    pub in_weights : (ws : List ℕ) → ws ≡ weights (transition_at f j) → i < length ws
    in_weights ws e = omega (arith, weights-count ws e)

    pub target-byte : (ts : List ℕ) → ts ≡ targets (transition_at f j) → get_or ts i 0 < most_states
    target-byte ts e = target_small ts e i (in_targets ts e)
