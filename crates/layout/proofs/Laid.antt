-- Bytes in which a table's parts lie at their places: they hold that table, and are accepted if it is valid.
-- Assumes nothing.
use mathlib.Core.Path.{◌≡◌, refl, sym, ◌∙◌, ap, subst}
use mathlib.Core.Bool.{true}
use mathlib.Core.List.{List, []}
use Prim.Native.Nat.{ℕ, zero, suc, pred, ◌+◌, ◌*◌, ◌-◌, ◌≤◌, ◌<◌}
use native.Mathlib.Nat.{zero-add}
use native.Mathlib.Omega.{arith}
use lib.Dec.{ltb, eqb}
use lib.ListN.{length, get_or}
use borrow.Author.Tests.{lt-ltb, le-leb, eq-eqb, ne_eqb}
use Rattle.simulation.specs.Sum.{below, sum, any, concat}
use Rattle.simulation.specs.Table.{Table, target_at, states_of, steps, no_transition}
use Rattle.simulation.proofs.Finite.Sums.{sum_ext, sum_le, sum_more}
use Rattle.simulation.proofs.Finite.Tests.{is_true, same_eqb, some-any}
use Rattle.simulation.specs.Limits.{most_codes, most_states, most_transitions, most_entries, most_total}
use Rattle.form.specs.Items.{all_transitions, all_entries}
use Rattle.form.specs.Valid.{Distribution, Valid}
use Rattle.layout.specs.Bytes.{refuse◌unless◌, byte, field, actions, code, states_start, states, count, transitions_start, transitions, label, size, start, entries_start, entries, entry_target, entry_weight, weight_from, total_from, target_right, weight_right, code_refusal, transition_refusal, entry_refusal, distribution_refusal, run_refusal, decoded_entry, decoded_transition, end, table, refusal, actions_refusal, states_refusal, transitions_refusal, entries_refusal}
use Rattle.form.proofs.Lists.{below-is, sizes, length-concat, concat-at}
use Rattle.layout.proofs.Numbered.{lists, lists_many, list_is, numbered, listed_at, distribution-at}
use Rattle.layout.proofs.Laws.{not_refused, both_hold}
use Rattle.layout.proofs.SectionLaws.{then_zero, pass_all, section_items}
use Rattle.layout.proofs.Bounds.{refusal_is, label-at-is, transitions_start_is, entries_start_is, end_is}
use Rattle.layout.proofs.PlaceLaws.{no-entry, steps-from, states_are, entry-count, target_is, entries_from, target_at-place, total-is}

-- lists one after the other, read back as runs of a function that gives their elements
runs_are {ℓ} : {A : Type ℓ} (d : A) (ls : List (List A)) (c : ℕ → ℕ) (f : ℕ → A) → ((i : ℕ) → i < length ls → c i ≡ sizes ls i)
    → ((j : ℕ) → j < length (concat ls) → f j ≡ get_or (concat ls) j d) → (q : ℕ) → q < length ls → below (sum q c) (c q) f ≡ get_or ls q []
runs_are d ls c f h g q l =
    below-is d (get_or ls q []) (sum q c) (c q) f (h q l) (λ k m.
    let here = h q l in
    let same = sum_ext q c (sizes ls) (λ i b. h i (omega arith)) in
    let more = sum_le q (length ls) (sizes ls) l in
    let all = length-concat ls in
    g (sum q c + k) (omega arith) ∙ ap (λ (x : ℕ). get_or (concat ls) (x + k) d) same ∙ concat-at d ls q k l (omega arith))

pub record Laid (w : ℕ) (s : List ℕ) (M : Table) : Type 0 where
  pub codes-count : actions w s ≡ length M.codes
  pub codes_are : (i : ℕ) → i < length M.codes → code w s i ≡ get_or M.codes i 0
  pub states-count : states w s ≡ states_of M
  pub counts-are : (q : ℕ) → q < states_of M → count w s q ≡ length (steps M q)
  pub transitions-count : transitions w s ≡ length (all_transitions M)
  pub labels_are : (j : ℕ) → j < length (all_transitions M) → label w s j ≡ (numbered M j).code
  pub sizes_are : (j : ℕ) → j < length (all_transitions M) → size w s j ≡ length (numbered M j).entries
  pub entries-count : entries w s ≡ length (all_entries M)
  pub targets-are : (e : ℕ) → e < length (all_entries M) → entry_target w s e ≡ (get_or (all_entries M) e no-entry).target
  pub weights-are : (e : ℕ) → e < length (all_entries M) → entry_weight w s e ≡ (get_or (all_entries M) e no-entry).weight
  pub end-at : end w s ≡ length s

module _ (w : ℕ) (s : List ℕ) (M : Table) (L : Laid w s M) where
  entry_laid : (e : ℕ) → e < length (all_entries M) → decoded_entry w s e ≡ get_or (all_entries M) e no-entry
  entry_laid e l = λ i. record { target = L.targets-are e l i; weight = L.weights-are e l i }

  size_laid : (j : ℕ) → j < length (lists M) → size w s j ≡ sizes (lists M) j
  size_laid j l = L.sizes_are j (omega (arith, lists_many M)) ∙ sym (ap length (list_is M j))

  transition_laid : (j : ℕ) → j < length (all_transitions M) → decoded_transition w s j ≡ numbered M j
  unfolding decoded_transition
  transition_laid j l =
      let run : below (start w s j) (size w s j) (decoded_entry w s) ≡ (numbered M j).entries
      = runs_are no-entry (lists M) (size w s) (decoded_entry w s) size_laid entry_laid j (omega (arith, lists_many M)) ∙ list_is M j in
      λ i. record { code = L.labels_are j l i; entries = run i }

  states_laid : (table w s).states ≡ M.states
  states_laid =
      states_are w s ∙ below-is [] M.states 0 (states w s) (steps-from w s) L.states-count (λ q l.
      ap (steps-from w s) (zero-add q) ∙ runs_are no_transition M.states (count w s) (decoded_transition w s) L.counts-are transition_laid q (omega (arith, L.states-count)))

  codes_laid : (table w s).codes ≡ M.codes
  unfolding table
  codes_laid = below-is 0 M.codes 0 (actions w s) (code w s) L.codes-count (λ i l. ap (code w s) (zero-add i) ∙ L.codes_are i (omega (arith, L.codes-count)))

  pub laid_table : table w s ≡ M
  laid_table = λ i. record { codes = codes_laid i; states = states_laid i }

  module _ (v : Valid w M) where
    abbrev far : ℕ → Type 0
    far p = p ≤ length s

    places : (far (entries_start w s + 2 + 3 * entries w s)) × (far (transitions_start w s + 2 + (w + 1) * transitions w s)) × (far (states_start w s + 1 + states w s))
    places =
        let a = transitions_start_is w s in
        let b = entries_start_is w s in
        let c = end_is w s in
        let d = L.end-at in
        (omega arith, omega arith, omega arith)

    actions_pass : actions_refusal w s ≡ 0
    unfolding code_refusal
    actions_pass =
        let p = places in
        let n = L.codes-count in
        section_items _ _ _ _ (le-leb w (length s) (omega arith)) (not_refused 3 (le-leb (actions w s) most_codes (omega (arith, v.codes.few)))) (le-leb (states_start w s) (length s) (omega arith))
        ∙ pass_all (pred (actions w s)) (code_refusal w s) (λ i l.
        let lo = L.codes_are i (omega arith) in
        let hi = L.codes_are (i + 1) (omega arith) in
        let up = v.codes.ascending i (omega arith) in
        not_refused 3 (lt-ltb (code w s i) (code w s (i + 1)) (omega arith)))

    states_pass : states_refusal w s ≡ 0
    states_pass =
        let p = places in
        let n = L.states-count in
        let some = v.shape.some in
        let few = v.shape.few_states in
        section_items _ _ _ _ (le-leb (states_start w s + 1) (length s) (omega arith))
        (not_refused 4 (both_hold (lt-ltb 0 (states w s) (omega arith)) (le-leb (states w s) most_states (omega arith))))
        (le-leb (states_start w s + 1 + states w s) (length s) (omega arith))

    transitions-counted : transitions w s ≡ sum (states w s) (count w s)
    transitions-counted =
        L.transitions-count ∙ length-concat M.states ∙ sym (sum_ext (states_of M) (count w s) (sizes M.states) L.counts-are)
        ∙ sym (ap (λ (n : ℕ). sum n (count w s)) L.states-count)

    distribution : (j : ℕ) → j < length (all_transitions M) → Distribution (states_of M) (decoded_transition w s j)
    distribution j l = subst (Distribution (states_of M)) (sym (transition_laid j l)) (distribution-at M v.shape j l)

    transition_passes : (j : ℕ) → j < transitions w s → transition_refusal w s (transitions_start w s + 2 + (w + 1) * j) ≡ 0
    unfolding transition_refusal
    transition_passes j l =
        let p = transitions_start w s + 2 + (w + 1) * j in
        let b : j < length (all_transitions M) = omega (arith, L.transitions-count) in
        let at = listed_at M v.shape j b in
        let i : ℕ = at.0 in
        let n : i < actions w s = omega (arith, at.1, L.codes-count) in
        let here : code w s i ≡ field w s p = L.codes_are i at.1 ∙ at.2 ∙ sym (L.labels_are j b) ∙ label-at-is w s j in
        let known = is_true (any (actions w s) (λ k. eqb (code w s k) (field w s p))) (some-any (actions w s) (λ k. eqb (code w s k) (field w s p)) i n (same_eqb here)) in
        let q : p + w ≡ transitions_start w s + 2 + w + (w + 1) * j = omega arith in
        let long = ap (byte s) q ∙ sym (entry-count w s j) in
        let some = (distribution j b).some in
        then_zero (refuse 8 unless ltb 0 (byte s (p + w))) (not_refused 6 known) ∙ not_refused 8 (lt-ltb 0 (byte s (p + w)) (omega arith))

    transitions_pass : transitions_refusal w s ≡ 0
    transitions_pass =
        let p = places in
        let n = L.transitions-count in
        let few = v.shape.few_transitions in
        section_items _ _ _ _ (le-leb (transitions_start w s + 2) (length s) (omega arith))
        (not_refused 5 (both_hold (le-leb (transitions w s) most_transitions (omega arith)) (eq-eqb (transitions w s) (sum (states w s) (count w s)) transitions-counted)))
        (le-leb (transitions_start w s + 2 + (w + 1) * transitions w s) (length s) (omega arith))
        ∙ pass_all (transitions w s) (λ j. transition_refusal w s (transitions_start w s + 2 + (w + 1) * j)) transition_passes

    entries-counted : entries w s ≡ sum (transitions w s) (size w s)
    entries-counted =
        L.entries-count ∙ length-concat (lists M) ∙ sym (sum_ext (length (lists M)) (size w s) (sizes (lists M)) size_laid)
        ∙ ap (λ (n : ℕ). sum n (size w s)) (lists_many M ∙ sym L.transitions-count)

    module _ (j : ℕ) (l : j < length (all_transitions M)) where
      abbrev p : ℕ
      p = entries_from w s j

      abbrev d : Distribution (states_of M) (decoded_transition w s j)
      d = distribution j l

      target-here : (k : ℕ) → k < size w s j → byte s (p + 3 * k) ≡ target_at (decoded_transition w s j) k
      target-here k m = target_at-place w s j k ∙ sym (target_is w s j k m)

      target_passes : (k : ℕ) → k < size w s j → target_right s (states w s) p k ≡ true
      unfolding target_right
      target_passes zero m =
          let here = target-here 0 m in
          let long = entry-count w s j in
          let n = L.states-count in
          let low = d.in_range 0 (omega arith) in
          both_hold (lt-ltb (byte s (p + 3 * 0)) (states w s) (omega arith)) refl
      target_passes (suc k) m =
          let here = target-here (suc k) m in
          let before = target-here k (omega arith) in
          let long = entry-count w s j in
          let n = L.states-count in
          let low = d.in_range (suc k) (omega arith) in
          let e : k + 1 ≡ suc k = omega arith in
          let up : target_at (decoded_transition w s j) k < target_at (decoded_transition w s j) (suc k) = rw e at (d.ascending k (omega arith)) in
          let q : p + 3 * (suc k - 1) ≡ p + 3 * k = omega arith in
          let at = ap (byte s) q in
          let later = ne_eqb (suc k) 0 (λ q. omega arith) in
          both_hold (lt-ltb (byte s (p + 3 * suc k)) (states w s) (omega arith)) (rw later (lt-ltb (byte s (p + 3 * (suc k - 1))) (byte s (p + 3 * suc k)) (omega arith)))

      weight_passes : (k : ℕ) → k < size w s j → weight_right s p k ≡ true
      unfolding weight_right
      weight_passes k m =
          let f = weight_from s p in
          let more = sum_le k (size w s j) f m in
          let next = sum_more k f refl in
          le-leb (total_from s p (k + 1)) most_total (omega (arith, total-is w s j, d.small))

      run_passes : run_refusal w s (states w s) (transitions_start w s + 2 + w) (entries_start w s + 2) j ≡ 0
      unfolding run_refusal distribution_refusal entry_refusal
      run_passes =
          let all = total_from s p (size w s j) in
          then_zero (refuse 10 unless ltb 0 all) (pass_all (size w s j) (entry_refusal s (states w s) p) (λ k m.
          then_zero (refuse 10 unless weight_right s p k) (not_refused 9 (target_passes k m)) ∙ not_refused 10 (weight_passes k m)))
          ∙ not_refused 10 (lt-ltb 0 all (omega (arith, total-is w s j, d.counted)))

    entries_pass : entries_refusal w s ≡ 0
    entries_pass =
        let p = places in
        let n = L.entries-count in
        let few = v.shape.few_entries in
        section_items _ _ _ _ (le-leb (entries_start w s + 2) (length s) (omega arith))
        (not_refused 7 (both_hold (le-leb (entries w s) most_entries (omega arith)) (eq-eqb (entries w s) (sum (transitions w s) (size w s)) entries-counted)))
        (le-leb (entries_start w s + 2 + 3 * entries w s) (length s) (omega arith))
        ∙ pass_all (transitions w s) (run_refusal w s (states w s) (transitions_start w s + 2 + w) (entries_start w s + 2)) (λ j l. run_passes j (omega (arith, L.transitions-count)))

    pub laid_passes : refusal w s ≡ 0
    laid_passes =
        refusal_is w s
        ∙ then_zero _ (then_zero (entries_refusal w s) (then_zero (transitions_refusal w s) (then_zero (states_refusal w s) actions_pass ∙ states_pass) ∙ transitions_pass) ∙ entries_pass)
        ∙ not_refused 2 (eq-eqb (end w s) (length s) L.end-at)
