-- Tests of all transitions of a state, by their numbers in a form.
-- Assumes nothing.
use mathlib.Core.Path.{◌≡◌, sym, ap, ◌∙◌, subst}
use mathlib.Core.Bool.{Bool, true, false}
use mathlib.Core.List.{List}
use mathlib.Core.Logic.{⊎_elim}
use Prim.Native.Nat.{ℕ, ◌+◌, ◌-◌, ◌≤◌, ◌<◌}
use native.Mathlib.Omega.{arith}
use lib.Dec.{T}
use lib.ListN.{length}
use Rattle.simulation.specs.Sum.{all_of, any_of}
use Rattle.simulation.specs.Table.{Transition, states_of, steps, no_transition, transition}
use Rattle.simulation.proofs.Finite.Tests.{is_true, is_false, last_or_below}
use Rattle.simulation.proofs.Finite.Lists.{all_of-at, all_of_by, any_of-at, any_of_by}
use Rattle.form.specs.Form.{Loaded, start_of, transition_at, table_of}
use Rattle.form.proofs.FormLaws.{counts, transition_of, transition_numbered}

-- one number more passes
pub upto_next : (P : ℕ → Bool) (b : Bool) (a n : ℕ) → ((k : ℕ) → a ≤ k → k < n → P k ≡ b) → {r : Bool} → r ≡ P n → r ≡ b → (k : ℕ) → a ≤ k → k < n + 1 → P k ≡ b
upto_next P b a n h e w k l u = ⊎_elim (λ q. ap P q ∙ sym e ∙ w) (λ v. h k l v) (last_or_below k n (omega arith))

-- the transitions of the state s are those numbered from its start to the next
module _ (f : List ℕ) (loaded : Loaded f) (s : ℕ) (a : s < states_of (table_of f)) (F : Transition → Bool) where
  at-number : (j : ℕ) → start_of f s ≤ j → j < start_of f (s + 1) → (b : Bool) → F (transition_at f j) ≡ b → F (transition (table_of f) s (j - start_of f s)) ≡ b
  at-number j l u b e = ap F (sym (transition_numbered f loaded s j a l u)) ∙ e

  number : (k : ℕ) → k < length (steps (table_of f) s) → (b : Bool)
      → ((j : ℕ) → start_of f s ≤ j → j < start_of f (s + 1) → F (transition_at f j) ≡ b) → F (transition (table_of f) s k) ≡ b
  number k l b h = ap F (sym (transition_of f loaded s k a l)) ∙ h (start_of f s + k) (omega arith) (omega (arith, counts f loaded s a))

  pub one_passes : (j : ℕ) → start_of f s ≤ j → j < start_of f (s + 1) → {r : Bool} → r ≡ F (transition_at f j) → r ≡ true → true ≡ any_of F (steps (table_of f) s)
  one_passes j l u e w =
      sym (is_true (any_of F (steps (table_of f) s))
      (any_of_by F no_transition (steps (table_of f) s) (j - start_of f s) (omega (arith, counts f loaded s a)) (subst T (sym (at-number j l u true (sym e ∙ w))) tt)))

  pub none_passes : ((j : ℕ) → start_of f s ≤ j → j < start_of f (s + 1) → F (transition_at f j) ≡ false) → false ≡ any_of F (steps (table_of f) s)
  none_passes h =
      sym (is_false (any_of F (steps (table_of f) s))
      (λ t. let x = any_of-at F no_transition (steps (table_of f) s) t in subst T (number x.0 x.1 false h) x.2))

  pub one_fails : (j : ℕ) → start_of f s ≤ j → j < start_of f (s + 1) → {r : Bool} → r ≡ F (transition_at f j) → r ≡ false → false ≡ all_of F (steps (table_of f) s)
  one_fails j l u e w =
      sym (is_false (all_of F (steps (table_of f) s))
      (λ t. subst T (at-number j l u false (sym e ∙ w)) (all_of-at F no_transition (steps (table_of f) s) t (j - start_of f s) (omega (arith, counts f loaded s a)))))

  pub all_pass : ((j : ℕ) → start_of f s ≤ j → j < start_of f (s + 1) → F (transition_at f j) ≡ true) → true ≡ all_of F (steps (table_of f) s)
  all_pass h = sym (is_true (all_of F (steps (table_of f) s)) (all_of_by F no_transition (steps (table_of f) s) (λ k l. subst T (sym (number k l true h)) tt)))
