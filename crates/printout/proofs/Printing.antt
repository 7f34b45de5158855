-- From the tables, the answer and the text for it to what is printed.
-- Assumes nothing.
use mathlib.Core.Path.{◌≡◌, refl, sym, ap, ap₂, ◌∙◌, subst, subst₂}
use mathlib.Core.List.{List}
use mathlib.Core.Logic.{◌≢◌}
use Prim.Native.Nat.{ℕ, ◌*◌, ◌≤◌}
use native.Mathlib.Omega.{arith}
use lib.ListN.{length}
use Rattle.std.specs.Prelude.{Option, Some, None, IsSome}
use Rattle.answer.specs.declared.answer.Answer.{Answer}
use Rattle.counting.specs.Count.{longest}
use Rattle.compare.specs.Outcome.{Buffers, lent, left}
use Rattle.pod.specs.Check.{Checked, state_count, states_in, StatesCounted}
use Rattle.pod.specs.Demands.{Call, first_refused, second_refused, both_accepted}
use Rattle.pod.proofs.Enough.{call_of, of_both, ranks-enough, tree-enough}
use Rattle.report.specs.Input.{first_of_input, second_of_input}
use Rattle.report.specs.Text.{answer_text}
use Rattle.buffer.specs.Buffer.{Filled}
use Rattle.printout.specs.Printed.{Counted, Printed, TreeLonger, Answered}

-- only the text for two accepted tables shows how many states they have
same_text : {first second : List ℕ} {b : Buffers} {p q number table : ℕ} → StatesCounted first p → StatesCounted second q → Call first second 0 0 b number table
    → (written : ℕ) (ranks tree : List ℕ) → answer_text table number written p q ranks tree ≡ answer_text table number written (states_in first) (states_in second) ranks tree
unfolding answer_text state_count
same_text m n (first_refused e) written ranks tree = refl
same_text m n (second_refused e f) written ranks tree = refl
same_text {number = number} m n (both_accepted {M} {N} e f c) written ranks tree =
    ap₂ (λ (p q : ℕ). answer_text 0 number written p q ranks tree) (m.right M e ∙ sym (ap state_count e)) (n.right N f ∙ sym (ap state_count f))

module _ (input : List ℕ) {first second ranks₀ flow₀ tree₀ ranks flow tree : List ℕ} {a : Answer}
    (ef : first ≡ first_of_input input) (es : second ≡ second_of_input input)
    (h : Checked first second 0 0 (lent ranks₀ flow₀ tree₀) (left a (lent ranks flow tree))) where
  checked : Checked (first_of_input input) (second_of_input input) 0 0 (lent ranks₀ flow₀ tree₀) (left a (lent ranks flow tree))
  checked = subst₂ (λ (f s : List ℕ). Checked f s 0 0 (lent ranks₀ flow₀ tree₀) (left a (lent ranks flow tree))) ef es h

  -- the tree has no room
  pub without-room : a.number ≡ 22 → TreeLonger input tree₀
  without-room e =
      record { ranks = ranks₀; flow = flow₀; call = of_both (omega arith) (subst (λ (n : ℕ). Call (first_of_input input) (second_of_input input) 0 0 (lent ranks₀ flow₀ tree₀) n a.table) e (call_of checked)) }

  -- the text of any other answer
  pub with_text : {written p q : ℕ} {before after : List ℕ} → Counted input p q → p * q ≤ length ranks₀ → a.number ≢ 22
      → Filled (answer_text a.table a.number a.written p q ranks tree) written before after → Printed input before written after
  with_text {written} {p} {q} {before} {after} sizes room d over =
      record {
        buffers₀ = lent ranks₀ flow₀ tree₀;
        answer = a;
        buffers = lent ranks flow tree;
        checked = checked;
        ranks_fit = ranks-enough sizes.first_states sizes.second_states room (call_of checked);
        tree_fits = d;
        text = subst (λ (text : List ℕ). Filled text written before after) (same_text sizes.first_states sizes.second_states (call_of checked) a.written ranks tree) over;
      }

-- a tree buffer of the largest length is never too short
pub always : (input tree before : List ℕ) (result : Option ℕ) (after : List ℕ) → longest ≤ length tree → Answered input tree before result after → IsSome result
always input tree before (Some written) after le h = refl
always input tree before None after le h = absurd (tree-enough le h.call refl)
