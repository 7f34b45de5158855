-- A transition with one target: fitting, the cut and the set of its target are told by what the target is related to.
-- Assumes nothing.
use mathlib.Core.Path.{◌≡◌, refl, sym, ◌∙◌, ap, subst}
use mathlib.Core.Bool.{Bool, true, not, ◌&&◌}
use mathlib.Core.List.{List}
use mathlib.Core.Logic.{⊎_elim}
use Prim.Native.Nat.{ℕ, ◌<◌}
use native.Mathlib.Omega.{arith}
use lib.Dec.{T, T_not, not_T, eqb}
use lib.ListN.{length}
use Rattle.simulation.specs.Sum.{any}
use Rattle.simulation.specs.Fit.{Positive, touched, fits?, cut}
use Rattle.simulation.specs.Table.{Transition, weights, target_at}
use Rattle.simulation.specs.Round.{Relation, between, fits_step}
use Rattle.simulation.specs.Tree.{cut_of, apart_by}
use Rattle.simulation.proofs.Finite.Tests.{true_or_not, and_both, and_left, and_right, is_true, is_false, same_test, same_eqb, any_some, some-any, touched-some, some-touched, below_one}
use Rattle.simulation.proofs.Fit.Gain.{total-positive}
use Rattle.simulation.proofs.Fit.Quick.{fits_full, misfit_column, weight-short, cut_products}

module _ (R : ℕ → ℕ → Bool) (ws vs : List ℕ) (one : length ws ≡ 1) (positive : Positive ws) (positive' : Positive vs) where
  -- some target of n is not related to the one of m
  lacks : Bool
  lacks = any (length vs) (λ k. not (R 0 k))

  row_is : (i k : ℕ) → i < length ws → R i k ≡ R 0 k
  row_is i k b = below_one (λ i. R i k ≡ R 0 k) refl i (omega (arith, one))

  complete : ¬ T (any (length vs) (λ k. not (R 0 k))) → (k : ℕ) → k < length vs → R 0 k ≡ true
  complete n k b = ⊎_elim (λ t. is_true (R 0 k) t) (λ f. absurd (n (some-any (length vs) (λ k. not (R 0 k)) k b f))) (true_or_not (R 0 k))

  pub lone-fits : fits? R ws vs ≡ not (any (length vs) (λ k. not (R 0 k)))
  unfolding lacks
  lone-fits = ⊎_elim misfit fit (true_or_not lacks)
    where
      misfit : T lacks → fits? R ws vs ≡ not lacks
      misfit t =
          let w = any_some (length vs) (λ k. not (R 0 k)) t in
          misfit_column R ws vs w.0 w.1 (positive' w.0 w.1) (total-positive ws (omega (arith, one)) positive)
          (λ i b. row_is i w.0 b ∙ is_false (R 0 w.0) (T_not (R 0 w.0) w.2))
          ∙ sym (ap not (is_true lacks t))

      fit : T (not lacks) → fits? R ws vs ≡ not lacks
      fit f =
          let n = T_not lacks f in
          fits_full R ws vs (λ i k b c. row_is i k b ∙ complete n k c) ∙ sym (ap not (is_false lacks n))

  -- the cut holds the target exactly if it does not fit
  pub lone-cut : (i : ℕ) → i < length ws → cut R ws vs i ≡ any (length vs) (λ k. not (R 0 k))
  unfolding lacks
  lone-cut =
      cut_products R ws vs (λ i. lacks) positive
      (λ i k b c e. row_is i k b ∙ complete (λ t. subst T e t) k c)
      (λ i b e. let w = any_some (length vs) (λ k. not (R 0 k)) (subst T (sym e) tt) in
      weight-short vs (R i) w.0 w.1 (positive' w.0 w.1) (row_is i w.0 b ∙ is_false (R 0 w.0) (T_not (R 0 w.0) w.2)))
      (λ i k i' b c b' e r. (row_is i' k b' ∙ sym (row_is i k b) ∙ r, e))

module _ (R : Relation) (m n : Transition) (one : length (weights m) ≡ 1) (positive : Positive (weights m)) (positive' : Positive (weights n)) (same : m.code ≡ n.code) where
  related_to : ℕ → Bool
  related_to = between R m n 0

  pub lone-step : fits_step R m n ≡ not (any (length (weights n)) (λ k. not (between R m n 0 k)))
  unfolding fits_step
  lone-step =
      ap (λ (b : Bool). b && fits? (between R m n) (weights m) (weights n)) (is_true (eqb m.code n.code) (same_eqb same))
      ∙ lone-fits (between R m n) (weights m) (weights n) one positive positive'

  -- what is told apart from the target: the targets of n that it is not related to
  pub lone-apart : (t' : ℕ) → apart_by R m 0 n t' ≡ any (length (weights n)) (λ k. eqb (target_at n k) t' && not (between R m n 0 k))
  unfolding apart_by related_to
  lone-apart t' =
      ap (λ (b : Bool). b && cut_of R m n 0 && told) (is_true (eqb m.code n.code) (same_eqb same))
      ∙ same_test (cut_of R m n 0 && told) (any (length (weights n)) (λ k. eqb (target_at n k) t' && not (related_to k))) there back
    where
      touching : ℕ → Bool
      touching = touched (length (weights m)) (between R m n) (cut_of R m n)

      told : Bool
      told = any (length (weights n)) (λ k. eqb (target_at n k) t' && not (touching k))

      cut-is : cut_of R m n 0 ≡ any (length (weights n)) (λ k. not (related_to k))
      cut-is = lone-cut (between R m n) (weights m) (weights n) one positive positive' 0 (omega (arith, one))

      there : T (cut_of R m n 0 && told) → T (any (length (weights n)) (λ k. eqb (target_at n k) t' && not (related_to k)))
      there h =
          let c = and_left (cut_of R m n 0) told h in
          let w = any_some (length (weights n)) (λ k. eqb (target_at n k) t' && not (touching k)) (and_right (cut_of R m n 0) told h) in
          let e = and_left (eqb (target_at n w.0) t') (not (touching w.0)) w.2 in
          let d = T_not (touching w.0) (and_right (eqb (target_at n w.0) t') (not (touching w.0)) w.2) in
          some-any (length (weights n)) (λ k. eqb (target_at n k) t' && not (related_to k)) w.0 w.1
          (and_both (eqb (target_at n w.0) t') (not (related_to w.0)) e
          (not_T (related_to w.0) (λ r. d (some-touched (length (weights m)) (between R m n) (cut_of R m n) 0 w.0 (omega (arith, one)) c r))))

      back : T (any (length (weights n)) (λ k. eqb (target_at n k) t' && not (related_to k))) → T (cut_of R m n 0 && told)
      back h =
          let w = any_some (length (weights n)) (λ k. eqb (target_at n k) t' && not (related_to k)) h in
          let e = and_left (eqb (target_at n w.0) t') (not (related_to w.0)) w.2 in
          let d = and_right (eqb (target_at n w.0) t') (not (related_to w.0)) w.2 in
          and_both (cut_of R m n 0) told (subst T (sym cut-is) (some-any (length (weights n)) (λ k. not (related_to k)) w.0 w.1 d))
          (some-any (length (weights n)) (λ k. eqb (target_at n k) t' && not (touching k)) w.0 w.1
          (and_both (eqb (target_at n w.0) t') (not (touching w.0)) e
          (not_T (touching w.0)
          (λ t.
          let u = touched-some (length (weights m)) (between R m n) (cut_of R m n) w.0 t in
          T_not (related_to w.0) d (subst T (below_one (λ i. between R m n i w.0 ≡ related_to w.0) refl u.0 (omega (arith, u.1, one))) u.3)))))
