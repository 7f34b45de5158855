-- The first round, in which all pairs are related: a transition fits every one with its code.
-- Assumes nothing.
use mathlib.Core.Path.{◌≡◌, sym, ap, ap₂, ◌∙◌, fun_ext, subst}
use mathlib.Core.Bool.{Bool, not, ◌&&◌, and-true}
use mathlib.Core.Logic.{◌≢◌}
use Prim.Native.Nat.{ℕ, ◌+◌, ◌≤◌, ◌<◌}
use native.Mathlib.Omega.{arith}
use native.Mathlib.Decide.{dec_le, dec_lt}
use borrow.Author.Tests.{le-leb, lt-leb, lt-ltb, le-ltb}
use lib.Dec.{T, eqb, leb, ltb}
use lib.ListN.{length}
use Rattle.simulation.specs.Sum.{all_of, any_of}
use Rattle.simulation.specs.Table.{Transition, Table, weights, states_of, steps, no_transition, transition}
use Rattle.simulation.specs.Round.{related, between, fits_step, survives, round}
use Rattle.simulation.specs.Demands.{Sound}
use Rattle.simulation.proofs.Finite.Tests.{is_true, is_false, same_test}
use Rattle.simulation.proofs.Finite.Lists.{any_of-at, any_of_by}
use Rattle.simulation.proofs.Fit.Quick.{fits_full}
use Rattle.simulation.proofs.Simulation.Rounds.{in_zero, in_right}
use Rattle.fit.specs.Held.{matched, coded}
use Rattle.lacking.specs.Lacking.{lacks_one}
use Rattle.dropping.specs.Falling.{falls}
use Rattle.dropping.proofs.Dropping.{with_both}
use Rattle.dropping.proofs.Answers.{all_alike}

-- before the first round all pairs are there
pub all-pairs : (M N : Table) (s t : ℕ) → s < states_of M → related (round M N 0) s t ≡ ltb t (states_of N)
all-pairs M N s t a = go (dec_lt t (states_of N))
  where
    go : Dec (t < states_of N) → related (round M N 0) s t ≡ ltb t (states_of N)
    go (yes b) = is_true (related (round M N 0) s t) (in_zero M N a b) ∙ sym (lt-ltb t (states_of N) b)
    go (no b) = is_false (related (round M N 0) s t) (λ h. b (in_right M N 0 s t h)) ∙ sym (le-ltb t (states_of N) (omega arith))

module _ (M N : Table) (sound-first : Sound M) (sound-second : Sound N) where
  -- the code decides
  first_fits : (s t k l : ℕ) → k < length (steps M s) → l < length (steps N t)
      → fits_step (round M N 0) (transition M s k) (transition N t l) ≡ eqb (transition M s k).code (transition N t l).code
  unfolding fits_step
  first_fits s t k l a b =
      let m = transition M s k in
      let n = transition N t l in
      ap (λ (x : Bool). eqb m.code n.code && x)
      (fits_full (between (round M N 0) m n) (weights m) (weights n)
      (λ i j u v. is_true _ (in_zero M N (sound-first.target_bound s k i a u) (sound-second.target_bound t l j b v))))
      ∙ and-true (eqb m.code n.code)

  first_answers : (s t k : ℕ) → k < length (steps M s) → any_of (fits_step (round M N 0) (transition M s k)) (steps N t) ≡ coded (transition M s k).code (steps N t)
  first_answers s t k a =
      let m = transition M s k in
      let F : Transition → Bool = fits_step (round M N 0) m in
      let G : Transition → Bool = λ n. eqb m.code n.code in
      same_test (any_of F (steps N t)) (any_of G (steps N t))
      (λ h. let x = any_of-at F no_transition (steps N t) h in any_of_by G no_transition (steps N t) x.0 x.1 (subst T (first_fits s t k x.0 a x.1) x.2))
      (λ h. let x = any_of-at G no_transition (steps N t) h in any_of_by F no_transition (steps N t) x.0 x.1 (subst T (sym (first_fits s t k x.0 a x.1)) x.2))

  first-matched : (s t : ℕ) → matched M N (round M N 0) s t ≡ all_of (λ (m : Transition). coded m.code (steps N t)) (steps M s)
  first-matched s t =
      all_alike (λ m. any_of (fits_step (round M N 0) m) (steps N t)) (λ m. coded m.code (steps N t)) no_transition (steps M s) (first_answers s t)

  -- the pairs that fall are those that lack a code
  pub first-falls : (s : ℕ) → s < states_of M → lacks_one M N s ≡ falls M N (round M N 0) s
  unfolding survives
  first-falls s a =
      fun_ext
      (λ t.
      sym
      (with_both (related (round M N 0) s t) (matched M N (round M N 0) s t)
      ∙ ap₂ (λ (x y : Bool). x && not y) (all-pairs M N s t a) (first-matched s t)))

-- of the rows from s on, all but s are those from the next on
pub from_next : (s u : ℕ) → u ≢ s → leb (s + 1) u ≡ leb s u
from_next s u d = go (dec_le s u)
  where
    go : Dec (s ≤ u) → leb (s + 1) u ≡ leb s u
    go (yes a) = le-leb (s + 1) u (omega arith) ∙ sym (le-leb s u a)
    go (no a) = lt-leb (s + 1) u (omega arith) ∙ sym (lt-leb s u (omega arith))
