-- The cut where the rows of a set have the same columns, and every other row has all.
-- Assumes nothing.
use mathlib.Core.Path.{◌≡◌, sym, ap, subst}
use mathlib.Core.Bool.{Bool, true, false, not, ◌&&◌}
use mathlib.Core.List.{List}
use mathlib.Core.Logic.{◌⊎◌, inl, inr, ⊎_elim}
use Prim.Native.Nat.{ℕ, ◌+◌, ◌*◌, ◌≤◌, ◌<◌}
use native.Mathlib.Nat.{mul_comm, mul-le-mul_left, le_of_mul-le-mul_left, le_antisymm}
use native.Mathlib.Decide.{ℕ_discrete}
use native.Mathlib.Omega.{arith}
use lib.Dec.{T, T_not, not_T}
use lib.ListN.{length}
use Rattle.simulation.specs.Sum.{any, when}
use Rattle.simulation.specs.Fit.{Set, Positive, weight, weight_of, total, touched, gain, largest_gain, fits?, cut}
use Rattle.simulation.proofs.Finite.Tests.{true_or_not, and_both, and_left, and_right, by_contradiction, is_true, is_false, true_T, same_test, any_some, some-any, touched-some, some-touched}
use Rattle.simulation.proofs.Finite.Sums.{sum_ext, sum_mono, sum_tight, when_mono}
use Rattle.simulation.proofs.Fit.Gain.{gain-largest, largest_gained, gain-fits, cut-least, cut_all}
use Rattle.simulation.proofs.Fit.Lemma1.{gain_excess}
use Rattle.simulation.proofs.Fit.Quick.{weight-all, weight-none, weight-most}

-- X lies within S, and gains what a set does that touches exactly H
record Within (R : ℕ → ℕ → Bool) (ws vs : List ℕ) (S H X : Set) : Type 0 where
  inside : (i : ℕ) → i < length ws → T (X i) → T (S i)
  gained : gain R ws vs X + total ws * weight_of vs H ≡ total vs * weight_of ws X + total ws * total vs

module _ (R : ℕ → ℕ → Bool) (ws vs : List ℕ) (S H : Set)
    (full : (i j : ℕ) → i < length ws → j < length vs → S i ≡ false → R i j ≡ true)
    (alike : (i j : ℕ) → i < length ws → j < length vs → S i ≡ true → R i j ≡ H j) where
  -- a set with a row outside S touches all columns, so that it has no excess
  outside : (X : Set) (i : ℕ) → i < length ws → T (X i) → S i ≡ false → gain R ws vs X ≤ total ws * total vs
  outside X i l t f =
      omega (
        arith,
        gain_excess R ws vs X,
        ap (λ (n : ℕ). total ws * n) (weight-all vs (touched (length ws) R X) (λ j m. is_true (touched (length ws) R X j) (some-touched (length ws) R X i j l t (true_T (full i j l m f))))),
        mul-le-mul_left (total vs) (weight-most ws X),
        mul_comm (total vs) (total ws),
      )

  -- nor has a set without rows
  nothing : (X : Set) → ((i : ℕ) → i < length ws → X i ≡ false) → gain R ws vs X ≤ total ws * total vs
  nothing X e = omega (arith, gain_excess R ws vs X, ap (λ (n : ℕ). total vs * n) (weight-none ws X e))

  -- a set within S that has a row touches what this row has
  within : (X : Set) (i : ℕ) → i < length ws → T (X i) → ((k : ℕ) → k < length ws → T (X k) → T (S k)) → Within R ws vs S H X
  within X i l t h =
      record {
        inside = h;
        gained = omega (
          arith,
          gain_excess R ws vs X,
          ap (λ (n : ℕ). total ws * n) (sum_ext (length vs) _ _ (λ j m. ap (λ (b : Bool). when b (weight vs j)) (same j m))),
        );
      }
    where
      related : (k j : ℕ) → k < length ws → j < length vs → T (X k) → R k j ≡ H j
      related k j b m u = alike k j b m (is_true (S k) (h k b u))

      same : (j : ℕ) → j < length vs → touched (length ws) R X j ≡ H j
      same j m =
          same_test (touched (length ws) R X j) (H j)
          (λ u. let r = touched-some (length ws) R X j u in subst T (related r.0 j r.1 m r.2) r.3)
          (λ u. some-touched (length ws) R X i j l t (subst T (sym (related i j l m t)) u))

  cases : (X : Set) → (gain R ws vs X ≤ total ws * total vs) ⊎ Within R ws vs S H X
  cases X =
      ⊎_elim
      (λ t.
      let r = any_some (length ws) (λ i. X i && not (S i)) t in
      inl (outside X r.0 r.1 (and_left (X r.0) (not (S r.0)) r.2) (is_false (S r.0) (T_not (S r.0) (and_right (X r.0) (not (S r.0)) r.2)))))
      (λ f.
      let inside : (i : ℕ) → i < length ws → T (X i) → T (S i) = λ i l t. by_contradiction (S i) (λ n. T_not (any (length ws) (λ i. X i && not (S i))) f (some-any (length ws) (λ i. X i && not (S i)) i l (and_both (X i) (not (S i)) t (not_T (S i) n)))) in
      ⊎_elim
      (λ t. let r = any_some (length ws) X t in inr (within X r.0 r.1 r.2 inside))
      (λ g. inl (nothing X (λ i l. is_false (X i) (λ t. T_not (any (length ws) X) g (some-any (length ws) X i l t)))))
      (true_or_not (any (length ws) X)))
      (true_or_not (any (length ws) (λ i. X i && not (S i))))

  lighter : (X : Set) → Within R ws vs S H X → (i : ℕ) → i < length ws → when (X i) (weight ws i) ≤ when (S i) (weight ws i)
  lighter X w i l = when_mono (X i) (S i) (weight ws i) (w.inside i l)

  weighs : (X : Set) → Within R ws vs S H X → total vs * weight_of ws X ≤ total vs * weight_of ws S
  weighs X w = mul-le-mul_left (total vs) (sum_mono (length ws) _ _ (lighter X w))

  -- the columns of H can take what the rows of S have to send
  pub alike-fits : total vs * weight_of ws S ≤ total ws * weight_of vs H → fits? R ws vs ≡ true
  alike-fits h = is_true (fits? R ws vs) (gain-fits R ws vs (λ X. ⊎_elim (λ l. l) (λ w. omega (arith, w.gained, weighs X w)) (cases X)))

  -- they can't: S has the largest gain, and no smaller set has
  module _ (positive : Positive ws) (more : total ws * weight_of vs H < total vs * weight_of ws S) where
    whole : Within R ws vs S H S
    whole =
        ⊎_elim
        (λ t. let r = any_some (length ws) S t in within S r.0 r.1 r.2 (λ _ _ u. u))
        (λ f.
        absurd
        (omega (arith, ap (λ (n : ℕ). total vs * n) (weight-none ws S (λ i l. is_false (S i) (λ t. T_not (any (length ws) S) f (some-any (length ws) S i l t)))))))
        (true_or_not (any (length ws) S))

    -- a set that gains no less than S lies within it, and gains no more
    close : (X : Set) → gain R ws vs S ≤ gain R ws vs X → Within R ws vs S H X × (gain R ws vs X ≤ gain R ws vs S)
    close X h =
        ⊎_elim
        (λ l. absurd (omega (arith, whole.gained)))
        (λ w. (w, omega (arith, whole.gained, w.gained, weighs X w)))
        (cases X)

    largest : gain R ws vs S ≡ largest_gain R ws vs
    largest =
        let r = largest_gained R ws vs in
        le_antisymm (gain-largest R ws vs S) (omega (arith, r.1, (close r.0 (omega (arith, r.1, gain-largest R ws vs S))).1))

    -- a set that gains as much holds all of S, as no weight is 0
    holds : (X : Set) → gain R ws vs X ≡ largest_gain R ws vs → (i : ℕ) → i < length ws → T (S i) → T (X i)
    holds X e i l t =
        let w = (close X (omega (arith, largest))).0 in
        let heavy : weight_of ws S ≤ weight_of ws X = le_of_mul-le-mul_left {k = total vs} (omega (arith, largest, whole.gained, w.gained)) some in
        let same = sum_tight (length ws) _ _ (lighter X w) heavy i l in
        by_contradiction (X i)
        (λ n.
        omega (arith, same, ap (λ (b : Bool). when b (weight ws i)) (is_false (X i) n), ap (λ (b : Bool). when b (weight ws i)) (is_true (S i) t), positive i l))
      where
        some : 0 < total vs
        some = elim (ℕ_discrete (total vs) 0) [ yes z ↦ absurd (omega (arith, ap (λ (n : ℕ). n * weight_of ws S) z)) | no o ↦ omega arith ]

    pub alike-cut : (i : ℕ) → i < length ws → cut R ws vs i ≡ S i
    alike-cut i l = same_test (cut R ws vs i) (S i) (cut-least R ws vs S largest i l) (λ t. cut_all R ws vs i (λ X e. holds X e i l t))
