-- What holds of the counts and places of sections that were not refused.
-- Assumes nothing.
use mathlib.Core.Path.{◌≡◌, refl, sym, ◌∙◌, ap, ap₂}
use mathlib.Core.Bool.{◌&&◌}
use mathlib.Core.List.{List}
use Prim.Native.Nat.{ℕ, pred, ◌+◌, ◌*◌, ◌≤◌, ◌<◌}
use native.Mathlib.Nat.{one-mul}
use native.Mathlib.Omega.{arith}
use lib.Dec.{leb, ltb, eqb}
use lib.ListN.{length}
use borrow.Author.Tests.{leb-true, ltb-true, eqb-true}
use Rattle.simulation.specs.Sum.{sum}
use Rattle.simulation.proofs.Finite.Sums.{sum_ext}
use Rattle.simulation.specs.Limits.{most_codes, most_states, most_transitions, most_entries}
use Rattle.simulation.proofs.Finite.Tests.{both_true}
use Rattle.form.proofs.FormLists.{ascends}
use Rattle.layout.specs.Bytes.{◌then◌, byte, field, half, actions, code, states_start, states, count, transitions_start, transitions, label, size, entries_start, entries, end, refuse◌unless◌, first, code_refusal, actions_refusal, states_refusal, transitions_refusal, entries_refusal, refusal}
use Rattle.layout.proofs.SectionLaws.{accepted-holds, none-at, section-whole, then_parts}

module _ (w : ℕ) (s : List ℕ) where
  -- each count, and where its section begins
  pub states-is : states w s ≡ byte s (states_start w s)
  unfolding states
  states-is = refl

  pub transitions_start_is : transitions_start w s ≡ states_start w s + 1 + states w s
  unfolding transitions_start
  transitions_start_is = refl

  pub transitions-is : transitions w s ≡ half s (transitions_start w s)
  unfolding transitions
  transitions-is = refl

  pub entries_start_is : entries_start w s ≡ transitions_start w s + 2 + (w + 1) * transitions w s
  unfolding entries_start
  entries_start_is = refl

  pub entries-is : entries w s ≡ half s (entries_start w s)
  unfolding entries
  entries-is = refl

  pub end_is : end w s ≡ entries_start w s + 2 + 3 * entries w s
  unfolding end
  end_is = refl

  pub actions-is : actions w s ≡ field w s 0
  unfolding actions
  actions-is = refl

  pub code-at-is : (i : ℕ) → code w s i ≡ field w s (w + w * i)
  unfolding code
  code-at-is i = refl

  pub label-at-is : (j : ℕ) → label w s j ≡ field w s (transitions_start w s + 2 + (w + 1) * j)
  unfolding label
  label-at-is j = refl

  -- n codes of which none is refused ascend
  module _ (n : ℕ) (pass : first 0 (pred n) (code_refusal w s) ≡ 0) where
    pub code_above : (i : ℕ) → i + 1 < n → code w s i < code w s (i + 1)
    unfolding code_refusal
    code_above i l = ltb-true (code w s i) (code w s (i + 1)) (accepted-holds 2 (ltb (code w s i) (code w s (i + 1))) (none-at (pred n) (code_refusal w s) pass i (omega arith)))

    pub codes_ascend : (i j : ℕ) → i ≤ j → j < n → code w s i ≤ code w s j
    codes_ascend i j l m = ascends (code w s) (pred n) (λ k b. omega (arith, code_above k (omega arith))) i j l (omega arith)

  pub record ActionsBound : Type 0 where
    pub few : actions w s ≤ most_codes
    pub bytes : states_start w s ≤ length s

  pub actions_bounds : actions_refusal w s ≡ 0 → ActionsBound
  actions_bounds e =
      let x = section-whole _ _ _ _ e in
      record {
        few = leb-true (actions w s) most_codes (accepted-holds 2 (leb (actions w s) most_codes) x.rule_kept);
        bytes = leb-true (states_start w s) (length s) x.all_present;
      }

  pub record StatesBound : Type 0 where
    pub some : 0 < states w s
    pub few : states w s ≤ most_states
    pub bytes : states_start w s + 1 + states w s ≤ length s

  pub states_bounds : states_refusal w s ≡ 0 → StatesBound
  states_bounds e =
      let x = section-whole _ _ _ _ e in
      let rule = accepted-holds 3 (ltb 0 (states w s) && leb (states w s) most_states) x.rule_kept in
      record {
        some = ltb-true 0 (states w s) (both_true _ _ rule).0;
        few = leb-true (states w s) most_states (both_true (ltb 0 (states w s)) _ rule).1;
        bytes = leb-true (states_start w s + 1 + states w s) (length s) x.all_present;
      }

  pub record Transitions : Type 0 where
    pub few : transitions w s ≤ most_transitions
    pub counted : transitions w s ≡ sum (states w s) (count w s)
    pub bytes : transitions_start w s + 2 + (w + 1) * transitions w s ≤ length s

  pub transitions_bounds : transitions_refusal w s ≡ 0 → Transitions
  transitions_bounds e =
      let x = section-whole _ _ _ _ e in
      let rule = accepted-holds 4 (leb (transitions w s) most_transitions && eqb (transitions w s) (sum (states w s) (count w s))) x.rule_kept in
      record {
        few = leb-true (transitions w s) most_transitions (both_true _ _ rule).0;
        counted = eqb-true (transitions w s) (sum (states w s) (count w s)) (both_true (leb (transitions w s) most_transitions) _ rule).1;
        bytes = leb-true (transitions_start w s + 2 + (w + 1) * transitions w s) (length s) x.all_present;
      }

  -- what the sum over section 2 returns is the sum of the counts
  pub sum_of_counts : {n a r : ℕ} → n ≡ states w s → a ≡ states_start w s + 1 → r ≡ sum n (λ i. byte s (a + 1 * i)) → r ≡ sum (states w s) (count w s)
  sum_of_counts p q e =
      e ∙ ap₂ (λ (n a : ℕ). sum n (λ i. byte s (a + 1 * i))) p q
      ∙ sum_ext (states w s) (λ i. byte s (states_start w s + 1 + 1 * i)) (count w s) (λ i l. ap (λ (k : ℕ). byte s (states_start w s + 1 + k)) (one-mul i))

  pub record Entries : Type 0 where
    pub few : entries w s ≤ most_entries
    pub counted : entries w s ≡ sum (transitions w s) (size w s)
    pub bytes : entries_start w s + 2 + 3 * entries w s ≤ length s

  pub entries_bounds : entries_refusal w s ≡ 0 → Entries
  entries_bounds e =
      let x = section-whole _ _ _ _ e in
      let rule = accepted-holds 6 (leb (entries w s) most_entries && eqb (entries w s) (sum (transitions w s) (size w s))) x.rule_kept in
      record {
        few = leb-true (entries w s) most_entries (both_true _ _ rule).0;
        counted = eqb-true (entries w s) (sum (transitions w s) (size w s)) (both_true (leb (entries w s) most_entries) _ rule).1;
        bytes = leb-true (entries_start w s + 2 + 3 * entries w s) (length s) x.all_present;
      }

  -- nothing refuses
  pub record Passes : Type 0 where
    pub of_actions : actions_refusal w s ≡ 0
    pub of_states : states_refusal w s ≡ 0
    pub of_transitions : transitions_refusal w s ≡ 0
    pub of_entries : entries_refusal w s ≡ 0
    pub of_end : end w s ≡ length s

  pub refusal_is : refusal w s ≡ actions_refusal w s then states_refusal w s then transitions_refusal w s then entries_refusal w s then refuse 2 unless eqb (end w s) (length s)
  unfolding refusal
  refusal_is = refl

  pub passes : refusal w s ≡ 0 → Passes
  passes e =
      let a = then_parts (actions_refusal w s then states_refusal w s then transitions_refusal w s then entries_refusal w s) _ (sym refusal_is ∙ e) in
      let b = then_parts (actions_refusal w s then states_refusal w s then transitions_refusal w s) (entries_refusal w s) a.0 in
      let d = then_parts (actions_refusal w s then states_refusal w s) (transitions_refusal w s) b.0 in
      let f = then_parts (actions_refusal w s) (states_refusal w s) d.0 in
      record {
        of_actions = f.0;
        of_states = f.1;
        of_transitions = d.1;
        of_entries = b.1;
        of_end = eqb-true (end w s) (length s) (accepted-holds 1 (eqb (end w s) (length s)) a.1);
      }

  -- the counts and places of an accepted table
  pub record AcceptedBounds : Type 0 where
    pub of_actions : ActionsBound
    pub of_states : StatesBound
    pub of_transitions : Transitions
    pub of_entries : Entries

  pub accepted_bounds : refusal w s ≡ 0 → AcceptedBounds
  accepted_bounds e =
      let p = passes e in
      record { of_actions = actions_bounds p.of_actions; of_states = states_bounds p.of_states; of_transitions = transitions_bounds p.of_transitions; of_entries = entries_bounds p.of_entries }
