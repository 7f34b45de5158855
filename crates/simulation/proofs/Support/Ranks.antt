-- Fits, rounds and ranks by plain weights of 0 are those without the entries of weight 0.
-- Assumes nothing.
use mathlib.Core.Path.{◌≡◌, refl, ◌∙◌, ap, ap₂}
use mathlib.Core.Bool.{Bool, true, false, ◌&&◌}
use mathlib.Core.List.{List, map}
use Prim.Native.Nat.{ℕ, zero, suc, ◌*◌}
use lib.Dec.{eqb}
use lib.ListN.{length}
use Rattle.simulation.specs.Sum.{any_of, all_of}
use Rattle.simulation.specs.Fit.{fits?}
use Rattle.simulation.specs.Table.{Transition, Table, weights, states_of, steps}
use Rattle.simulation.specs.Support.{support_step, supported}
use Rattle.simulation.specs.Round.{Relation, related, relation, between, fits_step, survives, next, round, pairs, rank_from, rank}
use Rattle.simulation.proofs.Finite.Lists.{any_of-map, all_of_map}
use Rattle.simulation.proofs.Fit.Agree.{Agree, fits_agree}
use Rattle.simulation.proofs.Simulation.Relation.{relation_ext}
use Rattle.simulation.proofs.Support.Weights.{place}
use Rattle.simulation.proofs.Support.Shares.{fits-support}
use Rattle.simulation.proofs.Support.Entries.{support_step-code, support_step-weights, support_step-target}
use Rattle.simulation.proofs.Support.Tables.{supported-states, supported-steps}

module _ (R : Relation) (m n : Transition) where
  -- R at the places that the kept targets have
  placed : ℕ → ℕ → Bool
  placed i j = between R m n (place (weights m) i) (place (weights n) j)

  agrees : Agree (length (weights (support_step m))) (length (weights (support_step n))) (between R (support_step m) (support_step n)) placed
  unfolding placed
  agrees i j a b = ap₂ (related R) (support_step-target m i a) (support_step-target n j b)

  pub fits_step-supported : fits_step R (support_step m) (support_step n) ≡ fits_step R m n
  unfolding fits_step placed
  fits_step-supported =
      ap₂ ◌&&◌ (ap₂ eqb (support_step-code m) (support_step-code n))
      (fits_agree (between R (support_step m) (support_step n)) placed (weights (support_step m)) (weights (support_step n)) agrees
      ∙ ap₂ (fits? placed) (support_step-weights m) (support_step-weights n)
      ∙ fits-support (between R m n) (weights m) (weights n))

-- tables with as many states whose pairs survive alike have the same rounds and ranks
module _ (M N M' N' : Table) (p : states_of M ≡ states_of M') (q : states_of N ≡ states_of N')
    (same : (R : Relation) (s t : ℕ) → survives M N R s t ≡ survives M' N' R s t) where
  next-same : (R : Relation) → next M N R ≡ next M' N' R
  unfolding next
  next-same R =
      ap₂ (λ (x y : ℕ). relation x y (survives M N R)) p q
      ∙ relation_ext (states_of M') (states_of N') (survives M N R) (survives M' N' R) (λ s t _ _. same R s t)

  pub round_same : (k : ℕ) → round M N k ≡ round M' N' k
  unfolding round
  round_same zero = ap₂ (λ (x y : ℕ). relation x y (λ s t. true)) p q
  round_same (suc k) = next-same (round M N k) ∙ ap (next M' N') (round_same k)

  rank_from-same : (fuel k : ℕ) (R : Relation) (s t : ℕ) → rank_from M N fuel k R s t ≡ rank_from M' N' fuel k R s t
  unfolding rank_from
  rank_from-same zero k R s t = refl
  rank_from-same (suc fuel) k R s t =
      ap (λ (Q : Relation). elim (related Q s t) as (λ _. ℕ) [ true ↦ rank_from M N fuel (suc k) Q s t | false ↦ suc k ]) (next-same R)
      ∙ ap (λ (r : ℕ). elim (related (next M' N' R) s t) as (λ _. ℕ) [ true ↦ r | false ↦ suc k ]) (rank_from-same fuel (suc k) (next M' N' R) s t)

  pub rank_same : (s t : ℕ) → rank M N s t ≡ rank M' N' s t
  unfolding rank
  rank_same s t =
      ap₂ (λ (n : ℕ) (R : Relation). rank_from M N n 0 R s t) (ap₂ ◌*◌ p q) (round_same 0) ∙ rank_from-same (pairs M' N') 0 (round M' N' 0) s t

module _ (M N : Table) where
  survives-supported : (R : Relation) (s t : ℕ) → survives (supported M) (supported N) R s t ≡ survives M N R s t
  unfolding survives
  survives-supported R s t =
      ap₂ (λ (ms ns : List Transition). related R s t && all_of (λ m. any_of (fits_step R m) ns) ms) (supported-steps M s) (supported-steps N t)
      ∙ ap (λ (b : Bool). related R s t && b)
      (all_of_map support_step (λ m. any_of (fits_step R m) (map support_step (steps N t))) (λ m. any_of (fits_step R m) (steps N t))
      (λ m. any_of-map support_step (fits_step R (support_step m)) (fits_step R m) (λ n. fits_step-supported R m n) (steps N t)) (steps M s))

  pub round-supported : (k : ℕ) → round (supported M) (supported N) k ≡ round M N k
  round-supported = round_same (supported M) (supported N) M N (supported-states M) (supported-states N) survives-supported

  pub rank-supported : (s t : ℕ) → rank (supported M) (supported N) s t ≡ rank M N s t
  rank-supported = rank_same (supported M) (supported N) M N (supported-states M) (supported-states N) survives-supported
