-- Which refusals cannot be: a table is refused by a number up to 10, buffers that are long enough rule out 20 and 22, and 21 asks for a limited length.
-- Assumes nothing.
use mathlib.Core.Path.{◌≡◌, refl, sym, ◌∙◌, ap, ap₂, subst}
use mathlib.Core.Bool.{Bool, true, false}
use mathlib.Core.List.{List}
use Prim.Native.Nat.{ℕ, zero, suc, ◌+◌, ◌*◌, ◌≤◌, ◌<◌, zero-le}
use native.Mathlib.Omega.{arith}
use lib.Dec.{ltb, eqb}
use lib.ListN.{length}
use Rattle.simulation.specs.Fit.{Amounts}
use Rattle.simulation.specs.Limits.{wide}
use Rattle.simulation.specs.Table.{Table, states_of}
use Rattle.simulation.specs.Sum.{sum, any}
use Rattle.simulation.proofs.Support.Tables.{supported-states}
use Rattle.layout.specs.Bytes.{Octets, refuse◌unless◌, ◌then◌, first, section, byte, field, size_from, total_from, actions, code, end, target_right, weight_right, code_refusal, actions_refusal, states_refusal, transition_refusal, transitions_refusal, entry_refusal, distribution_refusal, run_refusal, entries_refusal, refusal, refused, number, decode_as}
use Rattle.layout.proofs.DecodeLaws.{number_is}
use Rattle.layout.proofs.Accepted.{accepted_shaped, accepted-valid}
use Rattle.flows.specs.Flow.{most_flow}
use Rattle.flows.proofs.FlowRoom.{room_most}
use Rattle.counting.specs.Count.{longest}
use Rattle.compare.specs.Outcome.{Buffers, Result, success}
use Rattle.pod.specs.Check.{Checked, StatesCounted}
use Rattle.pod.specs.Demands.{Call, first_refused, second_refused, both_accepted, call_result}
use Rattle.compare.specs.Condition.{Condition, outside, short_ranks, short_flow, short_tree, long_tree, flow_fits, tree_fits}
use Rattle.pod.proofs.Demands.{demand_1, contract-states}

-- ---- a table's number is at most 10

refuse_most : (k : ℕ) (t : Bool) → k ≤ 10 → (refuse k unless t) ≤ 10
unfolding refuse◌unless◌
refuse_most k true le = zero-le
refuse_most k false le = le

then_most : (f g : ℕ) → f ≤ 10 → g ≤ 10 → (f then g) ≤ 10
unfolding ◌then◌
then_most zero g a b = b
then_most (suc f) g a b = a

first-most : (f : ℕ → ℕ) → ((i : ℕ) → f i ≤ 10) → (i n : ℕ) → first i n f ≤ 10
unfolding first
first-most f h i zero = zero-le
first-most f h i (suc n) = then_most (f i) (first (suc i) n f) (h i) (first-most f h (suc i) n)

section-most : (present : Bool) (rule : ℕ) (whole : Bool) (items : ℕ) → rule ≤ 10 → items ≤ 10 → section present rule whole items ≤ 10
unfolding section
section-most present rule whole items a b =
    let before = refuse 1 unless present then rule in
    then_most (before then refuse 1 unless whole) items (then_most before (refuse 1 unless whole) (then_most (refuse 1 unless present) rule (refuse_most 1 present (omega arith)) a) (refuse_most 1 whole (omega arith))) b

either-most : (j k : ℕ) (a b : Bool) → j ≤ 10 → k ≤ 10 → (refuse j unless a then refuse k unless b) ≤ 10
either-most j k a b lj lk = then_most (refuse j unless a) (refuse k unless b) (refuse_most j a lj) (refuse_most k b lk)

module _ (w : ℕ) (s : List ℕ) where
  code-most : (i : ℕ) → code_refusal w s i ≤ 10
  unfolding code_refusal
  code-most i = refuse_most 3 (ltb (code w s i) (code w s (i + 1))) (omega arith)

  transition-most : (p : ℕ) → transition_refusal w s p ≤ 10
  unfolding transition_refusal
  transition-most p = either-most 6 8 (any (actions w s) (λ i. eqb (code w s i) (field w s p))) (ltb 0 (byte s (p + w))) (omega arith) (omega arith)

  entry-most : (n p k : ℕ) → entry_refusal s n p k ≤ 10
  unfolding entry_refusal
  entry-most n p k = either-most 9 10 (target_right s n p k) (weight_right s p k) (omega arith) (omega arith)

  distribution-most : (n p size : ℕ) → distribution_refusal s n p size ≤ 10
  unfolding distribution_refusal
  distribution-most n p size =
      then_most (first 0 size (entry_refusal s n p)) (refuse 10 unless ltb 0 (total_from s p size)) (first-most (entry_refusal s n p) (entry-most n p) 0 size) (refuse_most 10 (ltb 0 (total_from s p size)) (omega arith))

  run-most : (n q p j : ℕ) → run_refusal w s n q p j ≤ 10
  unfolding run_refusal
  run-most n q p j = distribution-most n (p + 3 * sum j (size_from w s q)) (size_from w s q j)

  actions-most : actions_refusal w s ≤ 10
  actions-most = section-most _ _ _ _ (refuse_most 3 _ (omega arith)) (first-most (code_refusal w s) code-most _ _)

  states-most : states_refusal w s ≤ 10
  states-most = section-most _ _ _ _ (refuse_most 4 _ (omega arith)) zero-le

  transitions-most : transitions_refusal w s ≤ 10
  transitions-most = section-most _ _ _ _ (refuse_most 5 _ (omega arith)) (first-most _ (λ j. transition-most _) _ _)

  entries-most : entries_refusal w s ≤ 10
  entries-most = section-most _ _ _ _ (refuse_most 7 _ (omega arith)) (first-most _ (run-most _ _ _) _ _)

  refusal-most : refusal w s ≤ 10
  unfolding refusal
  refusal-most =
      let two = actions_refusal w s then states_refusal w s in
      let three = two then transitions_refusal w s in
      then_most (three then entries_refusal w s) (refuse 2 unless eqb (end w s) (length s))
      (then_most three (entries_refusal w s) (then_most two (transitions_refusal w s) (then_most (actions_refusal w s) (states_refusal w s) actions-most states-most) transitions-most) entries-most)
      (refuse_most 2 (eqb (end w s) (length s)) (omega arith))

  refused-most : {k : ℕ} → decode_as w s ≡ refused k → k ≤ 10
  refused-most e = omega (arith, refusal-most, number_is w s, ap number e)

-- ---- no call on long enough buffers gives 20 or 22

module _ {M N : Table} {room s t : ℕ} {b : Buffers} where
  ranks-few : {n : ℕ} → states_of M * states_of N ≤ length b.ranks → Condition M N room s t b n → n ≡ 20 → ⊥
  ranks-few le (outside f) e = omega arith
  ranks-few le (short_ranks i l) e = omega arith
  ranks-few le (short_flow r k l) e = omega arith
  ranks-few le (flow_fits r k l) e = omega arith
  ranks-few le (long_tree r k l) e = omega arith
  ranks-few le (short_tree r k l g) e = omega arith
  ranks-few le (tree_fits r k l g) e = omega arith

  tree_short : {n : ℕ} → longest ≤ length b.tree → Condition M N room s t b n → n ≡ 22 → ⊥
  tree_short le (outside f) e = omega arith
  tree_short le (short_ranks i l) e = omega arith
  tree_short le (short_flow r k l) e = omega arith
  tree_short le (flow_fits r k l) e = omega arith
  tree_short le (long_tree r k l) e = omega arith
  tree_short le (short_tree r k l g) e = omega arith
  tree_short le (tree_fits r k l g) e = omega arith

module _ {first second : List ℕ} {s t : ℕ} {b : Buffers} where
  -- the call of a checked answer
  pub call_of : {r : Result} → Checked first second s t b r → Call first second s t b r.answer.number r.answer.table
  call_of {r} h = ((demand_1 first second s t b r h).exactly r.answer.number r.answer.table).0 (refl, refl)

  -- a number above 10 names no table
  pub of_both : {n k : ℕ} → 10 < n → Call first second s t b n k → Call first second s t b n 0
  of_both lt (first_refused e) = absurd (omega (arith, refused-most wide first e))
  of_both lt (second_refused e f) = absurd (omega (arith, refused-most wide second f))
  of_both lt (both_accepted e f c) = both_accepted e f c

  pub ranks-enough : {n k p q : ℕ} → StatesCounted first p → StatesCounted second q → p * q ≤ length b.ranks → Call first second s t b n k → n ≡ 20 → ⊥
  ranks-enough m n le (first_refused e) z = omega (arith, refused-most wide first e)
  ranks-enough m n le (second_refused e f) z = omega (arith, refused-most wide second f)
  ranks-enough m n le (both_accepted {M} {N} e f c) z = ranks-few (omega (arith, ap₂ (λ (p q : ℕ). p * q) (m.right M e ∙ sym (supported-states M)) (n.right N f ∙ sym (contract-states M N)))) c z

  pub tree-enough : {n k : ℕ} → longest ≤ length b.tree → Call first second s t b n k → n ≡ 22 → ⊥
  tree-enough le (first_refused e) z = omega (arith, refused-most wide first e)
  tree-enough le (second_refused e f) z = omega (arith, refused-most wide second f)
  tree-enough le (both_accepted e f c) z = tree_short le c z

-- ---- how long a flow buffer 21 asks for

module _ {first second : List ℕ} {s t : ℕ} {b : Buffers} (bytes : Octets first) where
  needed_most : (x : ℕ → Amounts) {n k : ℕ} (c : Call first second s t b n k) → n ≡ 21 → (call_result first second s t b x c).answer.needed ≤ most_flow
  unfolding success
  needed_most x (first_refused e) z = zero-le
  needed_most x (second_refused e f) z = zero-le
  needed_most x (both_accepted e f (outside h)) z = zero-le
  needed_most x (both_accepted e f (short_ranks i h)) z = absurd (omega arith)
  needed_most x (both_accepted {M} {N} e f (short_flow r k h)) z =
      let v = accepted-valid wide first bytes M e in
      room_most M N s (v.few_each s (omega (arith, r.0.0, supported-states M))) v.shape.few_entries (accepted_shaped wide second N f).few_states
  needed_most x (both_accepted e f (flow_fits r k h)) z = zero-le
  needed_most x (both_accepted e f (long_tree r k h)) z = zero-le
  needed_most x (both_accepted e f (short_tree r k h g)) z = absurd (omega arith)
  needed_most x (both_accepted e f (tree_fits r k h g)) z = zero-le

  pub flow_asked : {r : Result} → Checked first second s t b r → r.answer.number ≡ 21 → r.answer.needed ≤ most_flow
  flow_asked {r} h z =
      let d = demand_1 first second s t b r h in
      subst (λ (q : Result). q.answer.needed ≤ most_flow) (sym (d.gives (call_of h))) (needed_most d.amounts (call_of h) z)
