-- A table that is accepted has a valid shape, and is valid if its numbers are bytes.
-- Assumes nothing.
use mathlib.Core.Path.{◌≡◌, sym, ◌∙◌, ap, subst}
use mathlib.Core.Bool.{true, false}
use mathlib.Core.List.{List}
use Prim.Native.Nat.{ℕ, pred, ◌+◌, ◌*◌, ◌-◌, ◌≤◌, ◌<◌}
use native.Mathlib.Omega.{arith}
use lib.Dec.{ltb, eqb, eqb→eq}
use borrow.Author.Tests.{leb-true, ltb-true, ne_eqb}
use Rattle.simulation.specs.Sum.{any}
use Rattle.simulation.specs.Fit.{total}
use Rattle.simulation.specs.Table.{weights}
use Rattle.simulation.proofs.Finite.Lists.{below_length}
use Rattle.simulation.proofs.Finite.Tests.{any_some, both_true}
use Rattle.simulation.specs.Limits.{most_total}
use Rattle.layout.specs.Bytes.{refuse◌unless◌, first, Octets, field, actions, code, byte, states_start, states, count, transitions_start, transitions, label, size, start, state_start, entries_start, entries, entry_target, total_from, target_right, weight_right, code_refusal, transition_refusal, entry_refusal, distribution_refusal, run_refusal, decoded_entry, decoded_transition, table, refusal}
use Rattle.form.specs.Valid.{Codes, Listed, Distribution, Shaped, Valid}
use Rattle.layout.proofs.SectionLaws.{then_parts, accepted-holds, none-at, section-whole}
use Rattle.layout.proofs.Bounds.{passes, accepted_bounds, actions-is, code-at-is, code_above, label-at-is}
use Rattle.layout.proofs.Fields.{field-small}
use Rattle.layout.proofs.PlaceLaws.{code-count, code_is, state_count, step_count, transition-is, label_is, number-below, entry-count, target_is, entries_from, target_at-place, total-is}
use Rattle.layout.proofs.LayoutLaws.{transitions-in_order, entries_in-order}

module _ (w : ℕ) (s : List ℕ) (e : refusal w s ≡ 0) where
  codes_pass : first 0 (pred (actions w s)) (code_refusal w s) ≡ 0
  codes_pass = (section-whole _ _ _ _ (passes w s e).of_actions).items_pass

  transitions_pass : first 0 (transitions w s) (λ j. transition_refusal w s (transitions_start w s + 2 + (w + 1) * j)) ≡ 0
  transitions_pass = (section-whole _ _ _ _ (passes w s e).of_transitions).items_pass

  entries_pass : first 0 (transitions w s) (run_refusal w s (states w s) (transitions_start w s + 2 + w) (entries_start w s + 2)) ≡ 0
  entries_pass = (section-whole _ _ _ _ (passes w s e).of_entries).items_pass

  codes : Octets s → Codes w (table w s).codes
  codes bytes = record {
    few = rw code-count (accepted_bounds w s e).of_actions.few;
    counted = rw (code-count, actions-is w s) (field-small w s bytes 0);
    small = λ i l. let m : i < actions w s = rw code-count at l in rw (code_is w s i m, code-at-is w s i) (field-small w s bytes (w + w * i));
    ascending = λ i l. let m : i + 1 < actions w s = rw code-count at l in rw (code_is w s i (omega arith), code_is w s (i + 1) m) (code_above w s (actions w s) codes_pass i m);
  }

  module _ (j : ℕ) (l : j < transitions w s) where
    abbrev here : ℕ
    here = transitions_start w s + 2 + (w + 1) * j

    abbrev place : ℕ
    place = entries_from w s j

    transition_passes : (any (actions w s) (λ i. eqb (code w s i) (field w s here)) ≡ true) × (ltb 0 (byte s (here + w)) ≡ true)
    unfolding transition_refusal
    transition_passes =
        let known = any (actions w s) (λ i. eqb (code w s i) (field w s here)) in
        let h = then_parts (refuse 6 unless known) (refuse 8 unless ltb 0 (byte s (here + w))) (none-at (transitions w s) (λ j. transition_refusal w s (transitions_start w s + 2 + (w + 1) * j)) transitions_pass j l) in
        (accepted-holds 5 known h.0, accepted-holds 7 (ltb 0 (byte s (here + w))) h.1)

    some-entries : 0 < size w s j
    some-entries =
        let q : here + w ≡ transitions_start w s + 2 + w + (w + 1) * j = omega arith in
        subst (λ (x : ℕ). 0 < byte s x) q (ltb-true 0 (byte s (here + w)) transition_passes.1)

    label-listed : Listed (table w s).codes (label w s j)
    label-listed =
        let r = any_some (actions w s) (λ i. eqb (code w s i) (field w s here)) (rw transition_passes.0 tt) in
        (r.0, rw code-count r.1, code_is w s r.0 r.1 ∙ eqb→eq (code w s r.0) (field w s here) r.2 ∙ sym (label-at-is w s j))

    distribution_passes : (first 0 (size w s j) (entry_refusal s (states w s) place) ≡ 0) × (ltb 0 (total_from s place (size w s j)) ≡ true)
    unfolding run_refusal distribution_refusal
    distribution_passes =
        let some = ltb 0 (total_from s place (size w s j)) in
        let h = then_parts (first 0 (size w s j) (entry_refusal s (states w s) place)) (refuse 10 unless some)
        (none-at (transitions w s) (run_refusal w s (states w s) (transitions_start w s + 2 + w) (entries_start w s + 2)) entries_pass j l) in
        (h.0, accepted-holds 9 some h.1)

    entry_passes : (k : ℕ) → k < size w s j → (target_right s (states w s) place k ≡ true) × (weight_right s place k ≡ true)
    unfolding entry_refusal
    entry_passes k m =
        let h = then_parts (refuse 9 unless target_right s (states w s) place k) (refuse 10 unless weight_right s place k)
        (none-at (size w s j) (entry_refusal s (states w s) place) distribution_passes.0 k m) in
        (accepted-holds 8 (target_right s (states w s) place k) h.0, accepted-holds 9 (weight_right s place k) h.1)

    target_small : (k : ℕ) → k < size w s j → entry_target w s (start w s j + k) < states w s
    unfolding target_right
    target_small k m = rw (target_at-place w s j k) at (ltb-true (byte s (place + 3 * k)) (states w s) (both_true (ltb (byte s (place + 3 * k)) (states w s)) _ (entry_passes k m).0).0)

    target_above : (k : ℕ) → k + 1 < size w s j → entry_target w s (start w s j + k) < entry_target w s (start w s j + (k + 1))
    unfolding target_right
    target_above k m =
        let h = (both_true (ltb (byte s (place + 3 * (k + 1))) (states w s)) _ (entry_passes (k + 1) m).0).1 in
        let z : eqb (k + 1) 0 ≡ false = ne_eqb (k + 1) 0 (λ q. omega arith) in
        let g : ltb (byte s (place + 3 * (k + 1 - 1))) (byte s (place + 3 * (k + 1))) ≡ true = rw z at h in
        let q : place + 3 * (k + 1 - 1) ≡ place + 3 * k = omega arith in
        let lo = ap (byte s) q ∙ target_at-place w s j k in
        let hi = target_at-place w s j (k + 1) in
        let b = ltb-true (byte s (place + 3 * (k + 1 - 1))) (byte s (place + 3 * (k + 1))) g in
        omega arith

    total-some : 0 < total (weights (decoded_transition w s j))
    total-some = rw total-is (ltb-true 0 _ distribution_passes.1)

    total-small : total (weights (decoded_transition w s j)) ≤ most_total
    unfolding weight_right
    total-small =
        let n = some-entries in
        let last : size w s j - 1 + 1 ≡ size w s j = omega arith in
        rw total-is (rw last at (leb-true (total_from s place (size w s j - 1 + 1)) most_total (entry_passes (size w s j - 1) (omega arith)).1))

    distribution : Distribution (states w s) (decoded_transition w s j)
    distribution =
        let long = entry-count w s j in
        record {
          some = rw long some-entries;
          in_range = λ i h. let m : i < size w s j = rw long at h in rw (target_is w s j i m) (target_small i m);
          ascending = λ i h. let m : i + 1 < size w s j = rw long at h in rw (target_is w s j i (omega arith), target_is w s j (i + 1) m) (target_above i m);
          counted = total-some;
          small = total-small;
        }

  module _ (q k : ℕ) (l : q < states w s) (m : k < count w s q) where
    listed : Listed (table w s).codes (decoded_transition w s (state_start w s q + k)).code
    listed = let n = state_start w s q + k in rw (label_is w s n) (label-listed n (number-below w s q k e l m))

  pub shaped : Shaped (table w s)
  shaped =
      let b = accepted_bounds w s e in
      let sc = state_count w s in
      record {
        some = rw sc b.of_states.some;
        few_states = rw sc b.of_states.few;
        few_transitions = rw (transitions-in_order w s e, below_length (decoded_transition w s) 0 (transitions w s)) b.of_transitions.few;
        few_entries = rw (entries_in-order w s e, below_length (decoded_entry w s) 0 (entries w s)) b.of_entries.few;
        listed = λ q k l m.
            let l' : q < states w s = rw sc at l in
            let m' : k < count w s q = rw (step_count w s q l') at m in
            rw (transition-is w s q k l' m') (listed q k l' m');
        distribution = λ q k l m.
            let l' : q < states w s = rw sc at l in
            let m' : k < count w s q = rw (step_count w s q l') at m in
            rw (sc, transition-is w s q k l' m') (distribution (state_start w s q + k) (number-below w s q k e l' m'));
      }

pub valid : (w : ℕ) (s : List ℕ) → Octets s → refusal w s ≡ 0 → Valid w (table w s)
valid w s bytes e = record {
  codes = codes w s e bytes;
  shape = shaped w s e;
  few_each = λ q l. omega (arith, step_count w s q (rw state_count at l), bytes (states_start w s + 1 + q));
}
