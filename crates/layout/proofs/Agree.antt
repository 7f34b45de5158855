-- Bytes t that agree with accepted bytes s below a place k: a section that ends at k or before passes in t as in s,
-- and where t ends at k, the section that k lies in is refused with 1.
-- Assumes nothing.
use mathlib.Core.Path.{◌≡◌, sym, ◌∙◌, ap, ap₂}
use mathlib.Core.Bool.{Bool, ◌&&◌, ◌||◌}
use mathlib.Core.List.{List}
use Prim.Native.Nat.{ℕ, pred, ◌+◌, ◌*◌, ◌-◌, ◌≤◌, ◌<◌}
use native.Mathlib.Omega.{arith}
use lib.Dec.{leb, ltb, eqb}
use lib.ListN.{length}
use borrow.Author.Tests.{leb-true, le-leb, lt-leb}
use Rattle.simulation.specs.Sum.{sum, any}
use Rattle.simulation.proofs.Finite.Sums.{sum_ext, sum_le}
use Rattle.simulation.proofs.Finite.Tests.{any_ext}
use Rattle.simulation.specs.Limits.{most_codes, most_states, most_transitions, most_entries, most_total}
use Rattle.layout.specs.Bytes.{◌then◌, refuse◌unless◌, first, byte, field, half, size_from, actions, code, states_start, states, count, transitions_start, transitions, size, entries_start, entries, end, weight_from, total_from, target_right, weight_right, code_refusal, transition_refusal, entry_refusal, distribution_refusal, run_refusal, refusal, actions_refusal, states_refusal, transitions_refusal, entries_refusal}
use Rattle.layout.proofs.SectionLaws.{first_ext, section_items, section-broken, section-whole}
use Rattle.layout.proofs.Fields.{item_within, field-same}
use Rattle.layout.proofs.Bounds.{passes, accepted_bounds, actions-is, code-at-is, states-is, transitions_start_is, transitions-is, entries_start_is, entries-is, end_is}

module _ (w : ℕ) (s t : List ℕ) (k : ℕ) (same : (p : ℕ) → p < k → byte t p ≡ byte s p) where
  half-same : (p : ℕ) → p + 1 < k → half t p ≡ half s p
  half-same p l = ap₂ (λ (a b : ℕ). a + 256 * b) (same p (omega arith)) (same (p + 1) l)

  -- the item at a place
  code_same : (i : ℕ) → w + w * i + w ≤ k → code w t i ≡ code w s i
  code_same i l = code-at-is w t i ∙ field-same s t k same w (w + w * i) l ∙ sym (code-at-is w s i)

  code_refusal-same : (i : ℕ) → w + w * (i + 1) + w ≤ k → code_refusal w t i ≡ code_refusal w s i
  unfolding code_refusal
  code_refusal-same i l = ap₂ (λ (a b : ℕ). refuse 3 unless ltb a b) (code_same i (omega arith)) (code_same (i + 1) l)

  transition_refusal-same : actions w t ≡ actions w s → states_start w s ≤ k → (p : ℕ) → p + w < k → transition_refusal w t p ≡ transition_refusal w s p
  unfolding transition_refusal
  transition_refusal-same e h p l =
      let known = ap (λ (n : ℕ). any n (λ i. eqb (code w t i) (field w t p))) e
      ∙ any_ext (actions w s) (λ i. eqb (code w t i) (field w t p)) (λ i. eqb (code w s i) (field w s p))
      (λ i m. ap₂ eqb (code_same i (omega (arith, item_within w i (actions w s) m))) (field-same s t k same w p (omega arith))) in
      ap₂ (λ (a : Bool) (n : ℕ). refuse 6 unless a then refuse 8 unless ltb 0 n) known (same (p + w) l)

  total-same : (p size : ℕ) → p + 3 * size ≤ k → total_from t p size ≡ total_from s p size
  total-same p size l = sum_ext size (weight_from t p) (weight_from s p) (λ m h. half-same (p + 3 * m + 1) (omega arith))

  entry_refusal-same : (n p i : ℕ) → p + 3 * i + 2 < k → entry_refusal t n p i ≡ entry_refusal s n p i
  unfolding entry_refusal target_right weight_right
  entry_refusal-same n p i l =
      let here = same (p + 3 * i) (omega arith) in
      let before = same (p + 3 * (i - 1)) (omega arith) in
      let total = total-same p (i + 1) (omega arith) in
      λ x. refuse 9 unless (ltb (here x) n && (eqb i 0 || ltb (before x) (here x))) then refuse 10 unless leb (total x) most_total

  distribution_refusal-same : (n p size : ℕ) → p + 3 * size ≤ k → distribution_refusal t n p size ≡ distribution_refusal s n p size
  unfolding distribution_refusal
  distribution_refusal-same n p size l =
      ap₂ (λ (items total : ℕ). items then refuse 10 unless ltb 0 total)
      (first_ext 0 size (entry_refusal t n p) (entry_refusal s n p) (λ i _ m. entry_refusal-same n p i (omega arith)))
      (total-same p size l)

  run_refusal-same : (n q p j : ℕ) → q + (w + 1) * j < k → p + 3 * (sum j (size_from w s q) + size_from w s q j) ≤ k → run_refusal w t n q p j ≡ run_refusal w s n q p j
  unfolding run_refusal
  run_refusal-same n q p j l h =
      let start = sum_ext j (size_from w t q) (size_from w s q) (λ i m. same (q + (w + 1) * i) (omega (arith, item_within (w + 1) i j m))) in
      ap₂ (λ (m b : ℕ). distribution_refusal t n (p + 3 * b) m) (same (q + (w + 1) * j) l) start
      ∙ distribution_refusal-same n (p + 3 * sum j (size_from w s q)) (size_from w s q j) (omega arith)

  module _ (e : refusal w s ≡ 0) (long : k ≤ length t) where
    -- 1. Actions
    pub actions-same : w ≤ k → actions w t ≡ actions w s
    actions-same l = actions-is w t ∙ field-same s t k same w 0 (omega arith) ∙ sym (actions-is w s)

    states_at-same : w ≤ k → states_start w t ≡ states_start w s
    states_at-same l = ap (λ (n : ℕ). w + w * n) (actions-same l)

    actions_rule : w ≤ k → refuse 3 unless leb (actions w t) most_codes ≡ 0
    actions_rule l = ap (λ (n : ℕ). refuse 3 unless leb n most_codes) (actions-same l) ∙ (section-whole _ _ _ _ (passes w s e).of_actions).rule_kept

    pub actions-kept : states_start w s ≤ k → actions_refusal w t ≡ 0
    actions-kept l =
        let h : w ≤ k = omega arith in
        let n = actions-same h in
        section_items _ _ _ _ (le-leb w (length t) (omega arith)) (actions_rule h) (le-leb (states_start w t) (length t) (omega (arith, states_at-same h)))
        ∙ ap (λ (m : ℕ). first 0 (pred m) (code_refusal w t)) n
        ∙ first_ext 0 (pred (actions w s)) (code_refusal w t) (code_refusal w s) (λ i _ m. code_refusal-same i (omega (arith, item_within w (i + 1) (actions w s) (omega arith))))
        ∙ (section-whole _ _ _ _ (passes w s e).of_actions).items_pass

    pub actions-broken : length t ≡ k → k < states_start w s → actions_refusal w t ≡ 1
    actions-broken q l = section-broken _ _ _ _ (λ p.
        let b = leb-true w (length t) p in
        let h : w ≤ k = omega arith in
        (actions_rule h, lt-leb (states_start w t) (length t) (omega (arith, states_at-same h))))

    -- 2. States
    module _ (l : states_start w s < k) where
      begin : states_start w t ≡ states_start w s
      begin = states_at-same (omega arith)

      pub states-same : states w t ≡ states w s
      states-same = states-is w t ∙ ap (byte t) begin ∙ same (states_start w s) l ∙ sym (states-is w s)

      transitions_at-same : transitions_start w t ≡ transitions_start w s
      transitions_at-same = transitions_start_is w t ∙ ap₂ (λ (a n : ℕ). a + 1 + n) begin states-same ∙ sym (transitions_start_is w s)

      states_rule : refuse 4 unless (ltb 0 (states w t) && leb (states w t) most_states) ≡ 0
      states_rule = ap (λ (n : ℕ). refuse 4 unless (ltb 0 n && leb n most_states)) states-same ∙ (section-whole _ _ _ _ (passes w s e).of_states).rule_kept

    pub states-kept : transitions_start w s ≤ k → states_refusal w t ≡ 0
    states-kept l =
        let a = transitions_start_is w s in
        let h : states_start w s < k = omega arith in
        let at = begin h in
        let n = states-same h in
        section_items _ _ _ _ (le-leb (states_start w t + 1) (length t) (omega arith)) (states_rule h) (le-leb (states_start w t + 1 + states w t) (length t) (omega arith))

    pub states-broken : length t ≡ k → states_start w s ≤ k → k < transitions_start w s → states_refusal w t ≡ 1
    states-broken q m l = section-broken _ _ _ _ (λ p.
        let a = transitions_start_is w s in
        let from = states_at-same (omega arith) in
        let b = leb-true (states_start w t + 1) (length t) p in
        let h : states_start w s < k = omega arith in
        let n = states-same h in
        (states_rule h, lt-leb (states_start w t + 1 + states w t) (length t) (omega arith)))

    -- 3. Transitions
    module _ (l : transitions_start w s + 1 < k) where
      after_states : states_start w s < k
      after_states = let a = transitions_start_is w s in omega arith

      pub transitions-same : transitions w t ≡ transitions w s
      transitions-same = transitions-is w t ∙ ap (half t) (transitions_at-same after_states) ∙ half-same (transitions_start w s) l ∙ sym (transitions-is w s)

      entries_at-same : entries_start w t ≡ entries_start w s
      entries_at-same = entries_start_is w t ∙ ap₂ (λ (a n : ℕ). a + 2 + (w + 1) * n) (transitions_at-same after_states) transitions-same ∙ sym (entries_start_is w s)

      counts_same : sum (states w t) (count w t) ≡ sum (states w s) (count w s)
      counts_same =
          let a = transitions_start_is w s in
          ap₂ (λ (n p : ℕ). sum n (λ q. byte t (p + 1 + q))) (states-same after_states) (begin after_states)
          ∙ sum_ext (states w s) (λ q. byte t (states_start w s + 1 + q)) (count w s) (λ q m. same (states_start w s + 1 + q) (omega arith))

      transitions_rule : refuse 5 unless (leb (transitions w t) most_transitions && eqb (transitions w t) (sum (states w t) (count w t))) ≡ 0
      transitions_rule =
          ap₂ (λ (m n : ℕ). refuse 5 unless (leb m most_transitions && eqb m n)) transitions-same counts_same
          ∙ (section-whole _ _ _ _ (passes w s e).of_transitions).rule_kept

    pub transitions-kept : entries_start w s ≤ k → transitions_refusal w t ≡ 0
    transitions-kept l =
        let b = entries_start_is w s in
        let a = transitions_start_is w s in
        let h : transitions_start w s + 1 < k = omega arith in
        let at = transitions_at-same (after_states h) in
        let m = transitions-same h in
        let many : (w + 1) * transitions w t ≡ (w + 1) * transitions w s = ap (λ (n : ℕ). (w + 1) * n) m in
        section_items _ _ _ _ (le-leb (transitions_start w t + 2) (length t) (omega arith)) (transitions_rule h) (le-leb (transitions_start w t + 2 + (w + 1) * transitions w t) (length t) (omega arith))
        ∙ ap₂ (λ (n p : ℕ). first 0 n (λ j. transition_refusal w t (p + 2 + (w + 1) * j))) m at
        ∙ first_ext 0 (transitions w s) (λ j. transition_refusal w t (transitions_start w s + 2 + (w + 1) * j)) (λ j. transition_refusal w s (transitions_start w s + 2 + (w + 1) * j))
        (λ j _ below. transition_refusal-same (actions-same (omega arith)) (omega arith) (transitions_start w s + 2 + (w + 1) * j) (omega (arith, item_within (w + 1) j (transitions w s) (omega arith))))
        ∙ (section-whole _ _ _ _ (passes w s e).of_transitions).items_pass

    pub transitions-broken : length t ≡ k → transitions_start w s ≤ k → k < entries_start w s → transitions_refusal w t ≡ 1
    transitions-broken q m l = section-broken _ _ _ _ (λ p.
        let b = entries_start_is w s in
        let a = transitions_start_is w s in
        let at = transitions_at-same (omega arith) in
        let c = leb-true (transitions_start w t + 2) (length t) p in
        let h : transitions_start w s + 1 < k = omega arith in
        let many : (w + 1) * transitions w t ≡ (w + 1) * transitions w s = ap (λ (n : ℕ). (w + 1) * n) (transitions-same h) in
        (transitions_rule h, lt-leb (transitions_start w t + 2 + (w + 1) * transitions w t) (length t) (omega arith)))

    -- 4. Entries
    module _ (l : entries_start w s + 1 < k) where
      after_transitions : transitions_start w s + 1 < k
      after_transitions = let a = entries_start_is w s in omega arith

      pub entries-same : entries w t ≡ entries w s
      entries-same = entries-is w t ∙ ap (half t) (entries_at-same after_transitions) ∙ half-same (entries_start w s) l ∙ sym (entries-is w s)

      pub end_same : end w t ≡ end w s
      end_same = end_is w t ∙ ap₂ (λ (a n : ℕ). a + 2 + 3 * n) (entries_at-same after_transitions) entries-same ∙ sym (end_is w s)

      sizes_same : sum (transitions w t) (size w t) ≡ sum (transitions w s) (size w s)
      sizes_same =
          let a = entries_start_is w s in
          let h = after_transitions in
          ap₂ (λ (n p : ℕ). sum n (size_from w t (p + 2 + w))) (transitions-same h) (transitions_at-same (after_states h))
          ∙ sum_ext (transitions w s) (size_from w t (transitions_start w s + 2 + w)) (size w s) (λ j m. same (transitions_start w s + 2 + w + (w + 1) * j) (omega (arith, item_within (w + 1) j (transitions w s) m)))

      entries_rule : refuse 7 unless (leb (entries w t) most_entries && eqb (entries w t) (sum (transitions w t) (size w t))) ≡ 0
      entries_rule =
          ap₂ (λ (m n : ℕ). refuse 7 unless (leb m most_entries && eqb m n)) entries-same sizes_same
          ∙ (section-whole _ _ _ _ (passes w s e).of_entries).rule_kept

    pub entries-kept : end w s ≤ k → entries_refusal w t ≡ 0
    entries-kept l =
        let d = end_is w s in
        let b = entries_start_is w s in
        let h : entries_start w s + 1 < k = omega arith in
        let h₃ = after_transitions h in
        let at = entries_at-same h₃ in
        let from = transitions_at-same (after_states h₃) in
        let m = entries-same h in
        let places : first 0 (transitions w t) (run_refusal w t (states w t) (transitions_start w t + 2 + w) (entries_start w t + 2)) ≡ first 0 (transitions w s) (run_refusal w t (states w s) (transitions_start w s + 2 + w) (entries_start w s + 2))
        = λ i. first 0 (transitions-same h₃ i) (run_refusal w t (states-same (after_states h₃) i) (from i + 2 + w) (at i + 2)) in
        let counted = (accepted_bounds w s e).of_entries.counted in
        section_items _ _ _ _ (le-leb (entries_start w t + 2) (length t) (omega arith)) (entries_rule h) (le-leb (entries_start w t + 2 + 3 * entries w t) (length t) (omega arith))
        ∙ places
        ∙ first_ext 0 (transitions w s) (run_refusal w t (states w s) (transitions_start w s + 2 + w) (entries_start w s + 2)) (run_refusal w s (states w s) (transitions_start w s + 2 + w) (entries_start w s + 2))
        (λ j _ below. let more = sum_le j (transitions w s) (size w s) (omega arith) in run_refusal-same (states w s) (transitions_start w s + 2 + w) (entries_start w s + 2) j (omega (arith, item_within (w + 1) j (transitions w s) (omega arith))) (omega arith))
        ∙ (section-whole _ _ _ _ (passes w s e).of_entries).items_pass

    pub entries-broken : length t ≡ k → entries_start w s ≤ k → k < end w s → entries_refusal w t ≡ 1
    entries-broken q m l = section-broken _ _ _ _ (λ p.
        let d = end_is w s in
        let b = entries_start_is w s in
        let at = entries_at-same (omega arith) in
        let c = leb-true (entries_start w t + 2) (length t) p in
        let h : entries_start w s + 1 < k = omega arith in
        let n = entries-same h in
        (entries_rule h, lt-leb (entries_start w t + 2 + 3 * entries w t) (length t) (omega arith)))
