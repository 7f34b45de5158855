-- A table without its entries of weight 0: valid where the table is, with as many transitions and no more entries, and sound.
-- Assumes nothing.
use mathlib.Core.Path.{◌≡◌, sym, ◌∙◌, ap}
use mathlib.Core.List.{List, map, map-map}
use Prim.Native.Nat.{ℕ, ◌+◌, ◌-◌, ◌≤◌, ◌<◌}
use native.Mathlib.Omega.{arith}
use lib.ListN.{length, length-map}
use Rattle.simulation.specs.Sum.{concat}
use Rattle.simulation.specs.Table.{Entry, Transition, Table, weights, target_at, states_of, transition}
use Rattle.simulation.specs.Support.{support_step, supported}
use Rattle.simulation.specs.Demands.{Sound}
use Rattle.simulation.proofs.Fit.Gain.{total-some}
use Rattle.simulation.proofs.Support.Weights.{support-weights, place, place_law, place_ascends}
use Rattle.simulation.proofs.Support.Entries.{support-length, support_step-code, support_step-weights, support_step-target, support_step-total}
use Rattle.simulation.proofs.Support.Tables.{supported-codes, supported-states, supported-length, supported-transition, supported-positive-at}
use Rattle.form.specs.Items.{all_transitions, all_entries}
use Rattle.form.specs.Valid.{Listed, Distribution, Shaped, Valid, AllPositive}
use Rattle.form.proofs.Lists.{map-concat, flat_length, flat_le}
use Rattle.form.proofs.Sound.{shaped_sound}
use Rattle.form.proofs.FormLists.{ascends}
use Rattle.form.proofs.FormLaws.{weights-length}

module _ (n : ℕ) (m : Transition) (d : Distribution n m) where
  abbrev ws : List ℕ
  ws = weights m

  long : length (support_step m).entries ≡ length (support-weights ws)
  long = sym (weights-length (support_step m)) ∙ ap length (support_step-weights m)

  -- an entry that is kept has its target, and a place in m
  place-below : (i : ℕ) → i < length (support_step m).entries → place ws i < length m.entries
  place-below i b = omega (arith, (place_law ws i (omega (arith, long))).bound, weights-length m)

  target_is : (i : ℕ) → i < length (support_step m).entries → target_at (support_step m) i ≡ target_at m (place ws i)
  target_is i b = support_step-target m i (omega (arith, weights-length (support_step m)))

  -- targets ascend over several entries too
  later : (p q : ℕ) → p < q → q < length m.entries → target_at m p < target_at m q
  later p q l b =
      omega (
        arith,
        d.ascending p (omega arith),
        ascends (target_at m) (length m.entries - 1) (λ i c. omega (arith, d.ascending i (omega arith))) (p + 1) q (omega arith) (omega arith),
      )

  pub supported-distribution : Distribution n (support_step m)
  supported-distribution =
      let same = support_step-total m in
      record {
        some = omega (arith, total-some (weights (support_step m)) (omega (arith, d.counted)), weights-length (support_step m));
        in_range = λ i b. omega (arith, target_is i b, d.in_range (place ws i) (place-below i b));
        ascending = λ i b.
            omega (
              arith,
              target_is i (omega arith),
              target_is (i + 1) b,
              later (place ws i) (place ws (i + 1)) (place_ascends ws i (omega (arith, long))) (place-below (i + 1) b),
            );
        counted = omega (arith, d.counted);
        small = omega (arith, d.small);
      }

pub supported-transitions : (M : Table) → all_transitions (supported M) ≡ map support_step (all_transitions M)
unfolding supported
supported-transitions M = map-concat support_step M.states

pub supported-entries : (M : Table) → length (all_entries (supported M)) ≤ length (all_entries M)
unfolding support_step
supported-entries M =
    let entries : Transition → List Entry = λ m. m.entries in
    let ms : List Transition = all_transitions M in
    omega (
      arith,
      ap (flat_length entries) (supported-transitions M),
      ap (λ (l : List (List Entry)). length (concat l)) (map-map entries support_step ms),
      flat_le (λ m. (support_step m).entries) entries (λ m. support-length m.entries) ms,
    )

pub supported_shaped : (M : Table) → Shaped M → Shaped (supported M)
supported_shaped M v =
    let same = supported-states M in
    record {
      some = omega (arith, v.some);
      few_states = omega (arith, v.few_states);
      few_transitions = omega (arith, v.few_transitions, ap length (supported-transitions M), length-map (all_transitions M) support_step);
      few_entries = omega (arith, v.few_entries, supported-entries M);
      listed = λ s k a b. listed s k (v.listed s k (omega arith) (omega (arith, supported-length M s)));
      distribution = λ s k a b.
          rw (supported-transition, supported-states) (supported-distribution (states_of M) (transition M s k) (v.distribution s k (omega arith) (omega (arith, supported-length M s))));
    }
  where
    listed : (s k : ℕ) → Listed M.codes (transition M s k).code → Listed (supported M).codes (transition (supported M) s k).code
    listed s k l = rw (supported-codes, supported-transition, support_step-code) l

pub supported-valid : (w : ℕ) (M : Table) → Valid w M → Valid w (supported M)
supported-valid w M v = record {
  codes = rw supported-codes v.codes;
  shape = supported_shaped M v.shape;
  few_each = λ s b. omega (arith, v.few_each s (omega (arith, supported-states M)), supported-length M s);
}

pub supported-positive : (M : Table) → AllPositive (supported M)
supported-positive M s k b = supported-positive-at M s k

-- what the theory of simulation needs
pub supported_sound : (M : Table) → Shaped M → Sound (supported M)
supported_sound M v = shaped_sound (supported M) (supported_shaped M v) (supported-positive M)
