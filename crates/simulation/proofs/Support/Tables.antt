-- A table without its entries of weight 0: its codes, states and transitions.
-- Assumes nothing.
use mathlib.Core.Path.{◌≡◌, refl, sym, ◌∙◌, ap, ap₂, subst}
use mathlib.Core.List.{List, [], map}
use Prim.Native.Nat.{ℕ, ◌<◌}
use native.Mathlib.Omega.{arith}
use lib.ListN.{length, get_or, length-map, get_or-map}
use lib.Seq.{ext_get_or}
use Rattle.simulation.specs.Fit.{Positive}
use Rattle.simulation.specs.Table.{Transition, Table, weights, states_of, steps, no_transition, transition}
use Rattle.simulation.specs.Support.{support_entries, support_step, supported}
use Rattle.simulation.proofs.Support.Entries.{support_step-positive, support_step-same}

-- a table is its codes and the transitions of its states
pub same-table : (M N : Table) → M.codes ≡ N.codes → states_of M ≡ states_of N → ((s : ℕ) → s < states_of M → steps M s ≡ steps N s) → M ≡ N
same-table M N e f g = ap₂ (λ (c : List ℕ) (l : List (List Transition)). record { codes = c; states = l }) e (ext_get_or [] M.states N.states f g)

module _ (M : Table) where
  pub supported-codes : (supported M).codes ≡ M.codes
  unfolding supported
  supported-codes = refl

  pub supported-states : states_of (supported M) ≡ states_of M
  unfolding supported
  supported-states = length-map M.states (map support_step)

  pub supported-steps : (s : ℕ) → steps (supported M) s ≡ map support_step (steps M s)
  unfolding supported
  supported-steps s = get_or-map (map support_step) M.states s []

  pub supported-length : (s : ℕ) → length (steps (supported M) s) ≡ length (steps M s)
  supported-length s = ap length (supported-steps s) ∙ length-map (steps M s) support_step

  -- a transition keeps its place
  pub supported-transition : (s k : ℕ) → transition (supported M) s k ≡ support_step (transition M s k)
  unfolding support_step support_entries
  supported-transition s k = ap (λ (l : List Transition). get_or l k no_transition) (supported-steps s) ∙ get_or-map support_step (steps M s) k no_transition

  pub supported-positive-at : (s k : ℕ) → Positive (weights (transition (supported M) s k))
  supported-positive-at s k = subst (λ (m : Transition). Positive (weights m)) (sym (supported-transition s k)) (support_step-positive (transition M s k))

  -- where no weight is 0, nothing is dropped
  pub supported-same : ((s k : ℕ) → k < length (steps M s) → Positive (weights (transition M s k))) → supported M ≡ M
  supported-same h =
      same-table (supported M) M supported-codes supported-states (λ s _.
      ext_get_or no_transition (steps (supported M) s) (steps M s) (supported-length s) (λ k b.
      supported-transition s k ∙ support_step-same (transition M s k) (h s k (omega (arith, supported-length s)))))

pub supported_twice : (M : Table) → supported (supported M) ≡ supported M
supported_twice M = supported-same (supported M) (λ s k b. supported-positive-at M s k)
