-- All transitions and all entries of an accepted table, as they lie in its bytes.
-- Assumes nothing.
use mathlib.Core.Path.{◌≡◌, sym, ◌∙◌, ap}
use mathlib.Core.List.{List, ◌++◌, map}
use Prim.Native.Nat.{ℕ, zero, suc, ◌+◌, ◌-◌}
use native.Mathlib.Nat.{add-zero, zero-add, add_comm}
use native.Mathlib.Omega.{arith}
use lib.ListN.{length}
use Rattle.simulation.specs.Sum.{below, sum, concat}
use Rattle.simulation.specs.Table.{Transition}
use Rattle.form.specs.Items.{all_transitions, all_entries}
use Rattle.layout.specs.Bytes.{states, count, transitions, size, entries, decoded_entry, decoded_transition, table, refusal}
use Rattle.form.proofs.Lists.{below-append, map_below}
use Rattle.simulation.proofs.Finite.Lists.{below_length}
use Rattle.simulation.proofs.Finite.Sums.{sum_le}
use Rattle.layout.proofs.Bounds.{accepted_bounds}

module _ {ℓ} {A : Type ℓ} (f : ℕ → A) where
  -- runs that follow one another are one run
  runs : (c : ℕ → ℕ) (i n t : ℕ) → sum (i + n) c ≡ sum i c + t → concat (below i n (λ q. below (sum q c) (c q) f)) ≡ below (sum i c) t f
  unfolding below concat sum
  runs c i zero t e =
      let h : sum (i + 0) c ≡ sum i c = ap (λ (x : ℕ). sum x c) (add-zero i) in
      let z : t ≡ 0 = omega arith in
      rw z
  runs c i (suc n) t e =
      let more = sum_le i (i + suc n) c (omega arith) in
      let rest : c i + (t - c i) ≡ t = omega arith in
      let step : suc i + n ≡ i + suc n = omega arith in
      let same : sum (suc i + n) c ≡ sum (i + suc n) c = ap (λ (x : ℕ). sum x c) step in
      let later = runs c (suc i) n (t - c i) (omega arith) in
      ap (λ (l : List A). below (sum i c) (c i) f ++ l) (later ∙ ap (λ (x : ℕ). below x (t - c i) f) (add_comm (c i) (sum i c)))
      ∙ sym (below-append f (sum i c) (c i) (t - c i))
      ∙ ap (λ (x : ℕ). below (sum i c) x f) rest

  -- all the runs together
  pub runs_all : (c : ℕ → ℕ) (n : ℕ) → concat (below 0 n (λ q. below (sum q c) (c q) f)) ≡ below 0 (sum n c) f
  unfolding sum
  runs_all c n = runs c 0 n (sum n c) (ap (λ (x : ℕ). sum x c) (zero-add n) ∙ sym (zero-add (sum n c)))

module _ (w : ℕ) (s : List ℕ) (e : refusal w s ≡ 0) where
  pub transitions-in_order : all_transitions (table w s) ≡ below 0 (transitions w s) (decoded_transition w s)
  unfolding table
  transitions-in_order =
      runs_all (decoded_transition w s) (count w s) (states w s)
      ∙ ap (λ (n : ℕ). below 0 n (decoded_transition w s)) (sym (accepted_bounds w s e).of_transitions.counted)

  pub transition-count : length (all_transitions (table w s)) ≡ transitions w s
  transition-count = ap length transitions-in_order ∙ below_length (decoded_transition w s) 0 (transitions w s)

  pub entries_in-order : all_entries (table w s) ≡ below 0 (entries w s) (decoded_entry w s)
  unfolding decoded_transition
  entries_in-order =
      ap (λ (ms : List Transition). concat (map (λ (m : Transition). m.entries) ms)) transitions-in_order
      ∙ ap concat (map_below (λ (m : Transition). m.entries) 0 (transitions w s) (decoded_transition w s))
      ∙ runs_all (decoded_entry w s) (size w s) (transitions w s)
      ∙ ap (λ (n : ℕ). below 0 n (decoded_entry w s)) (sym (accepted_bounds w s e).of_entries.counted)
