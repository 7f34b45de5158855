-- Laws of the decoded form: its counts, its transitions as those of the table that it stands for, its columns, and bounds.
-- Assumes nothing.
use mathlib.Core.Path.{◌≡◌, sym, ap, ◌∙◌, subst}
use mathlib.Core.List.{List, []}
use Prim.Native.Nat.{ℕ, ◌+◌, ◌-◌, ◌*◌, ◌≤◌, ◌<◌}
use native.Mathlib.Nat.{mul-le-mul}
use native.Mathlib.Omega.{arith}
use lib.ListN.{length, get_or, take, drop, length-map}
use Rattle.simulation.specs.Sum.{sum, below}
use Rattle.simulation.specs.Fit.{Positive, total}
use Rattle.simulation.specs.Table.{Entry, Transition, weights, targets, states_of, steps, no_transition, transition}
use Rattle.simulation.specs.Demands.{Sound}
use Rattle.simulation.proofs.Finite.Lists.{below_at, below_length}
use Rattle.simulation.proofs.Finite.Sums.{sum-join}
use Rattle.simulation.proofs.Simulation.Steps.{step-state}
use Rattle.simulation.specs.Limits.{most_states, most_transitions, most_entries, most_total, most_of_state, most_pairs}
use Rattle.form.specs.Valid.{Distribution}
use Rattle.form.specs.Form.{Loaded, targets_from, weights_from, count_of, start_of, transitions_of, entries_listed, entry_start, size_of, column_of, entry_at, transition_at, table_of, Span}
use Rattle.form.proofs.Lists.{getD_below, map_below}
use Rattle.form.proofs.Sound.{few-targets, shaped_sound}
use Rattle.form.proofs.FormLists.{part-below, ascends, crossed_at}

pub weights-length : (m : Transition) → length (weights m) ≡ length m.entries
weights-length m = length-map m.entries (λ (e : Entry). e.weight)

pub targets-length : (m : Transition) → length (targets m) ≡ length m.entries
targets-length m = length-map m.entries (λ (e : Entry). e.target)

module _ (f : List ℕ) where
  pub states-count : states_of (table_of f) ≡ count_of f
  unfolding table_of
  states-count = below_length _ 0 (count_of f)

  steps-are : (s : ℕ) → s < count_of f → steps (table_of f) s ≡ below (start_of f s) (start_of f (s + 1) - start_of f s) (transition_at f)
  unfolding table_of
  steps-are s h = below_at [] _ (count_of f) s h

  pub steps-count : (s : ℕ) → s < count_of f → length (steps (table_of f) s) ≡ start_of f (s + 1) - start_of f s
  steps-count s h = ap length (steps-are s h) ∙ below_length (transition_at f) (start_of f s) (start_of f (s + 1) - start_of f s)

  pub entries-count : (j : ℕ) → length (transition_at f j).entries ≡ size_of f j
  unfolding transition_at
  entries-count j = below_length (entry_at f) (entry_start f j) (size_of f j)

  pub weights-count : (j : ℕ) → length (weights (transition_at f j)) ≡ size_of f j
  weights-count j = weights-length (transition_at f j) ∙ entries-count j

  pub weights-column : (j : ℕ) → weights (transition_at f j) ≡ column_of f weights_from j
  unfolding transition_at
  weights-column j = map_below (λ (e : Entry). e.weight) (entry_start f j) (size_of f j) (entry_at f)

  pub targets-column : (j : ℕ) → targets (transition_at f j) ≡ column_of f targets_from j
  unfolding transition_at
  targets-column j = map_below (λ (e : Entry). e.target) (entry_start f j) (size_of f j) (entry_at f)

-- the slice from the first entry of a transition to the first of the next
pub column-part : (f : List ℕ) (column j : ℕ) → Span f column j
    → take (column + entry_start f (j + 1) - (column + entry_start f j)) (drop (column + entry_start f j) f) ≡ column_of f column j
column-part f column j w =
    let e : column + entry_start f (j + 1) - (column + entry_start f j) ≡ size_of f j = omega arith in
    ap (λ (n : ℕ). take n (drop (column + entry_start f j) f)) e
    ∙ part-below f column (entry_start f j) (size_of f j) (omega (arith, w.ordered, w.within))

-- the limits of a form
pub record Limits (f : List ℕ) : Type 0 where
  pub states-some : 0 < states_of (table_of f)
  pub states-few : states_of (table_of f) ≤ most_states
  pub transitions-few : transitions_of f ≤ most_transitions

-- the limits of one of its transitions
pub record Limited (m : Transition) : Type 0 where
  pub some : 0 < length (weights m)
  pub few : length (weights m) ≤ most_states
  pub paired : length (targets m) ≡ length (weights m)
  pub total-small : total (weights m) ≤ most_total

module _ (f : List ℕ) (l : Loaded f) where
  pub limits : Limits f
  limits = record { states-some = l.valid.shape.some; states-few = l.valid.shape.few_states; transitions-few = l.few_transitions }

  pub starts_ascend : (s t : ℕ) → s ≤ t → t ≤ states_of (table_of f) → start_of f s ≤ start_of f t
  starts_ascend s t h b = ascends (start_of f) (count_of f) l.ordered s t h (omega (arith, states-count f))

  -- at most all transitions begin before a state
  pub start-bound : (s : ℕ) → s ≤ states_of (table_of f) → start_of f s ≤ transitions_of f
  unfolding transitions_of
  start-bound s h = let n = states-count f in starts_ascend s (count_of f) (omega arith) (omega arith)

  pub counts : (s : ℕ) → s < states_of (table_of f) → start_of f (s + 1) ≡ start_of f s + length (steps (table_of f) s)
  counts s h =
      let b : s < count_of f = omega (arith, states-count f) in
      omega (arith, steps-count f s b, l.ordered s b)

  pub few_each : (s : ℕ) → s < states_of (table_of f) → start_of f (s + 1) ≤ start_of f s + most_of_state
  few_each s h = omega (arith, counts s h, l.valid.few_each s h)

  -- the transition k of the state s is one of all transitions
  pub transition-number : (s k : ℕ) → s < states_of (table_of f) → k < length (steps (table_of f) s) → start_of f s + k < transitions_of f
  transition-number s k h b = omega (arith, counts s h, start-bound (s + 1) (omega arith))

  pub transition_of : (s k : ℕ) → s < states_of (table_of f) → k < length (steps (table_of f) s)
      → transition_at f (start_of f s + k) ≡ transition (table_of f) s k
  transition_of s k h b =
      let c : s < count_of f = omega (arith, states-count f) in
      let n = start_of f (s + 1) - start_of f s in
      sym (ap (λ (m : List Transition). get_or m k no_transition) (steps-are f s c)
      ∙ getD_below (start_of f s) n k (transition_at f) no_transition (omega (arith, steps-count f s c)))

  -- a transition of a state lists at least the entries that it has
  pub listed_of : (s k : ℕ) → s < states_of (table_of f) → k < length (steps (table_of f) s)
      → length (transition (table_of f) s k).entries ≤ entries_listed f (start_of f s + k)
  listed_of s k h b =
      let j = start_of f s + k in
      omega (arith, l.listed_enough j (transition-number s k h b), entries-count f j, ap (λ (m : Transition). length m.entries) (transition_of s k h b))

  -- the transitions of one state list no more entries than all together
  pub listed-most : (s : ℕ) → s < states_of (table_of f) → sum (length (steps (table_of f) s)) (λ k. entries_listed f (start_of f s + k)) ≤ most_entries
  listed-most s h =
      let a = start_of f s in
      let n = length (steps (table_of f) s) in
      let rest = transitions_of f - (a + n) in
      let all : a + n + rest ≡ transitions_of f = omega (arith, counts s h, start-bound (s + 1) (omega arith)) in
      omega (arith, l.few_listed, ap (λ (i : ℕ). sum i (entries_listed f)) all, sum-join (a + n) rest (entries_listed f), sum-join a n (entries_listed f))

  -- the same by the transition's number
  pub transition_numbered : (s j : ℕ) → s < states_of (table_of f) → start_of f s ≤ j → j < start_of f (s + 1)
      → transition_at f j ≡ transition (table_of f) s (j - start_of f s)
  transition_numbered s j h a b =
      let e : start_of f s + (j - start_of f s) ≡ j = omega arith in
      ap (transition_at f) (sym e) ∙ transition_of s (j - start_of f s) h (omega (arith, counts s h))

  pub distribution_of : (s k : ℕ) → k < length (steps (table_of f) s) → Distribution (states_of (table_of f)) (transition (table_of f) s k)
  distribution_of s k h = l.valid.shape.distribution s k (step-state (table_of f) s k h) h

  pub limited_of : (s k : ℕ) → k < length (steps (table_of f) s) → Limited (transition (table_of f) s k)
  limited_of s k h =
      let m = transition (table_of f) s k in
      let d = distribution_of s k h in
      let a = weights-length m in
      let b = targets-length m in
      record {
        some = omega arith;
        few = omega (arith, few-targets (states_of (table_of f)) m d, l.valid.shape.few_states);
        paired = omega arith;
        total-small = d.small;
      }

  module _ (j : ℕ) (h : j < transitions_of f) where
    -- each transition is one of some state
    pub by_state : (P : Transition → Type 0) → ((s k : ℕ) → k < length (steps (table_of f) s) → P (transition (table_of f) s k)) → P (transition_at f j)
    unfolding transitions_of
    by_state P p =
        let o = crossed_at (start_of f) (count_of f) j (omega (arith, l.from_zero)) h in
        let s = o.step in
        let b : s < states_of (table_of f) = omega (arith, states-count f, o.within) in
        subst P (sym (transition_numbered s j b o.from o.to)) (p s (j - start_of f s) (omega (arith, counts s b, o.to)))

    pub distribution-at : Distribution (states_of (table_of f)) (transition_at f j)
    distribution-at = by_state (Distribution (states_of (table_of f))) distribution_of

    pub positive-at : Positive (weights (transition_at f j))
    positive-at = by_state (λ m. Positive (weights m)) l.positive

    pub limited_at : Limited (transition_at f j)
    limited_at = by_state Limited limited_of

    -- a column of all entries has a part for each transition
    pub span : (column : ℕ) → column + most_entries ≤ length f → Span f column j
    span column b =
        let last = ascends (entry_start f) (transitions_of f) l.entries_ordered (j + 1) (transitions_of f) (omega arith) (omega arith) in
        record {
          near = omega (arith, l.few_transitions);
          room = l.room;
          ordered = l.entries_ordered j h;
          within = omega (arith, last, l.few_entries);
        }

  -- what the theory of simulation needs
  pub sound : Sound (table_of f)
  sound = shaped_sound (table_of f) l.valid.shape l.positive

-- two tables have no more pairs than the limits allow
pub pairs-bound : (f g : List ℕ) → Loaded f → Loaded g → states_of (table_of f) * states_of (table_of g) ≤ most_pairs
pairs-bound f g l k = mul-le-mul (limits f l).states-few (limits g k).states-few
