-- Fitting and the cut settled without a flow: where all are related, where a target is left out, where the product of the weights is a maximum flow, and in a smaller relation.
-- Assumes nothing.
use mathlib.Core.Path.{◌≡◌, refl, sym, ◌∙◌, ap, subst}
use mathlib.Core.Bool.{Bool, true, false, not}
use mathlib.Core.List.{List}
use mathlib.Core.Logic.{⊎_elim}
use Prim.Native.Nat.{ℕ, ◌*◌, ◌≤◌, ◌<◌}
use native.Mathlib.Nat.{mul_comm, mul-zero, mul-pos, mul-le-mul_left, mul-lt-mul_of_pos_left, le_antisymm}
use native.Mathlib.Omega.{arith}
use lib.Dec.{T, T_not, not_T}
use lib.ListN.{length}
use Rattle.simulation.specs.Sum.{sum, any, when}
use Rattle.simulation.specs.Fit.{Amounts, Set, Fits, Positive, weight, weight_of, total, touched, gain, fits?, cut}
use Rattle.simulation.specs.Table.{Transition, weights, target_at}
use Rattle.simulation.specs.Round.{Relation, related, between, fits_step}
use Rattle.simulation.proofs.Finite.Tests.{true_or_not, by_contradiction, is_true, is_false, same?, any_some, some-any, touched-some, true_T}
use Rattle.simulation.proofs.Finite.Sums.{sum_ext, sum_mul, sum_term, sum-zero, when_mul}
use Rattle.simulation.proofs.Flow.Partial.{Reach, row, column, tight_from}
use Rattle.simulation.proofs.Fit.Gain.{supply, demand, weight_split, gain-is, gain_ext, gain-largest, largest_gained, fits-gain, cut-least}
use Rattle.simulation.proofs.Fit.Hall.{PartialFlow, Certified, fits?→Fits, Fits→fits?}
use Rattle.simulation.proofs.Fit.Cut.{Reached, cut_certified, cut_excess}
use Rattle.simulation.proofs.Fit.Compose.{fits?_mono}
use Rattle.simulation.proofs.Simulation.Steps.{fits_step-code, fits_step-fits, fits_step_by}

fails : {b : Bool} → b ≡ false → T b → ⊥
fails e t = subst T e t

sum-none : (n : ℕ) (f : ℕ → ℕ) → ((i : ℕ) → i < n → f i ≡ 0) → sum n f ≡ 0
sum-none n f h = sum_ext n f (λ i. 0) h ∙ sum-zero n

module _ (R : ℕ → ℕ → Bool) (ws vs : List ℕ) where
  -- all are related: each target sends to each the product of the weights
  pub fits_full : ((i j : ℕ) → i < length ws → j < length vs → R i j ≡ true) → fits? R ws vs ≡ true
  unfolding total
  fits_full h =
      is_true (fits? R ws vs)
      (Fits→fits? R ws vs
      (record {
        amount = λ i j. weight ws i * weight vs j;
        shares = record {
          support = λ i j l m _. true_T (h i j l m);
          sent = λ i l. sum_mul (length vs) (weight ws i) (weight vs);
          taken = λ j l. sum_ext (length ws) _ _ (λ i _. mul_comm (weight ws i) (weight vs j)) ∙ sum_mul (length ws) (weight vs j) (weight ws);
        };
      }))

  -- a pair that is not related has no amount
  unsent : (f : Fits (λ i j. T (R i j)) ws vs) (i j : ℕ) → i < length ws → j < length vs → R i j ≡ false → f.amount i j ≡ 0
  unsent f i j l m e = ⊎_elim (λ z. z) (λ d. absurd (fails e (f.shares.support i j l m d))) (same? (f.amount i j) 0)

  -- a target of m that is related to none
  pub misfit_row : (i : ℕ) → i < length ws → 0 < weight ws i → 0 < total vs → ((j : ℕ) → j < length vs → R i j ≡ false) → fits? R ws vs ≡ false
  misfit_row i l w u h =
      is_false (fits? R ws vs)
      (λ t.
      let f = fits?→Fits R ws vs t in
      omega (arith, f.shares.sent i l, sum-none (length vs) (λ j. f.amount i j) (λ j m. unsent f i j l m (h j m)), mul-pos w u))

  -- a target of n that none is related to
  pub misfit_column : (j : ℕ) → j < length vs → 0 < weight vs j → 0 < total ws → ((i : ℕ) → i < length ws → R i j ≡ false) → fits? R ws vs ≡ false
  misfit_column j m v u h =
      is_false (fits? R ws vs)
      (λ t.
      let f = fits?→Fits R ws vs t in
      omega (arith, f.shares.taken j m, sum-none (length ws) (λ i. f.amount i j) (λ i l. unsent f i j l m (h i l)), mul-pos v u))

-- what does not fit in a relation does not fit in a smaller one
pub fits_step-less : (R R' : Relation) (m n : Transition) → ((s t : ℕ) → related R' s t ≡ true → related R s t ≡ true) → fits_step R m n ≡ false → fits_step R' m n ≡ false
fits_step-less R R' m n h e =
    is_false (fits_step R' m n)
    (λ t.
    fails e
    (fits_step_by R m n (fits_step-code R' m n t)
    (fits?_mono (between R' m n) (between R m n) (weights m) (weights n)
    (λ i j _ _ r. true_T (h (target_at m i) (target_at n j) (is_true (between R' m n i j) r))) (fits_step-fits R' m n t))))

-- what a set weighs that holds all, none, some, or lacks one
pub weight-all : (ws : List ℕ) (S : Set) → ((i : ℕ) → i < length ws → S i ≡ true) → weight_of ws S ≡ total ws
unfolding total
weight-all ws S h = sum_ext (length ws) (λ i. when (S i) (weight ws i)) (weight ws) (λ i l. ap (λ (c : Bool). when c (weight ws i)) (h i l))

pub weight-none : (ws : List ℕ) (S : Set) → ((i : ℕ) → i < length ws → S i ≡ false) → weight_of ws S ≡ 0
weight-none ws S h = sum-none (length ws) (λ i. when (S i) (weight ws i)) (λ i l. ap (λ (c : Bool). when c (weight ws i)) (h i l))

pub weight-most : (ws : List ℕ) (S : Set) → weight_of ws S ≤ total ws
weight-most ws S = omega (arith, weight_split ws S)

pub weight-short : (ws : List ℕ) (S : Set) (i : ℕ) → i < length ws → 0 < weight ws i → S i ≡ false → weight_of ws S < total ws
weight-short ws S i l w e =
    omega (
      arith,
      weight_split ws S,
      sum_term (length ws) (λ i. when (not (S i)) (weight ws i)) i l,
      ap (λ (c : Bool). when (not c) (weight ws i)) e,
    )

when_swap : (c : Bool) (m n : ℕ) → m * when c n ≡ n * when c m
when_swap c m n = when_mul m c n ∙ ap (when c) (mul_comm m n) ∙ sym (when_mul n c m)

-- Each target of m sends the product of the weights to each that it is related to. S are those that this leaves short, and what they are related to is full, from S alone.
module _ (R : ℕ → ℕ → Bool) (ws vs : List ℕ) (S : Set) (positive : Positive ws)
    (full : (i j : ℕ) → i < length ws → j < length vs → S i ≡ false → R i j ≡ true)
    (short : (i : ℕ) → i < length ws → S i ≡ true → weight_of vs (R i) < total vs)
    (closed : (i j i' : ℕ) → i < length ws → j < length vs → i' < length ws → S i ≡ true → R i j ≡ true → (R i' j ≡ true) × (S i' ≡ true)) where
  products : Amounts
  products i j = weight ws i * when (R i j) (weight vs j)

  products_row : (i : ℕ) → row (length vs) products i ≡ weight ws i * weight_of vs (R i)
  unfolding products
  products_row i = sum_mul (length vs) (weight ws i) (λ j. when (R i j) (weight vs j))

  products_column : (j : ℕ) → column (length ws) products j ≡ weight vs j * weight_of ws (λ i. R i j)
  unfolding products
  products_column j =
      sum_ext (length ws) (λ i. products i j) (λ i. weight vs j * when (R i j) (weight ws i)) (λ i _. when_swap (R i j) (weight ws i) (weight vs j))
      ∙ sum_mul (length ws) (weight vs j) (λ i. when (R i j) (weight ws i))

  products_flow : PartialFlow R ws vs products
  unfolding products
  products_flow =
      record {
        support = λ i j l m d.
            by_contradiction (R i j) (λ n. d (ap (λ (c : Bool). weight ws i * when c (weight vs j)) (is_false (R i j) n) ∙ mul-zero (weight ws i)));
        rows = λ i l. omega (arith, products_row i, mul-le-mul_left (weight ws i) (weight-most vs (R i)));
        columns = λ j m. omega (arith, products_column j, mul-le-mul_left (weight vs j) (weight-most ws (λ i. R i j)));
      }

  products_tight : Certified R ws vs products S
  products_tight =
      tight_from (length ws) (length vs) R (supply ws vs) (demand ws vs) products S
      (λ i l f. omega (arith, products_row i, ap (λ (n : ℕ). weight ws i * n) (weight-all vs (R i) (λ j m. full i j l m (is_false (S i) (T_not (S i) f))))))
      (λ i j l m s r. omega (arith, products_column j, ap (λ (n : ℕ). weight vs j * n) (weight-all ws (λ i. R i j) (λ i' l'. (closed i j i' l m l' (is_true (S i) s) (is_true (R i j) r)).0))))
      (λ i j i' l m l' s r _. true_T (closed i j i' l m l' (is_true (S i) s) (is_true (R i j) r)).1)

  products_reach : Reached R ws vs products S
  products_reach i l s = Reach.short i l (omega (arith, products_row i, mul-lt-mul_of_pos_left (short i l (is_true (S i) s)) (positive i l)))

  pub cut_products : (i : ℕ) → i < length ws → cut R ws vs i ≡ S i
  cut_products = cut_certified R ws vs products S products_flow products_tight products_reach

module _ (R : ℕ → ℕ → Bool) (ws vs : List ℕ) where
  -- the empty set
  gain-none : gain R ws vs (λ i. false) ≡ total ws * total vs
  gain-none =
      omega (
        arith,
        gain-is R ws vs (λ i. false),
        ap (λ (n : ℕ). total vs * n) (weight-none ws (λ i. false) (λ i _. refl)),
        ap (λ (n : ℕ). total ws * n)
            (weight-all vs (λ j. not (touched (length ws) R (λ i. false) j)) (λ j _. is_true _ (not_T (touched (length ws) R (λ i. false) j) (λ t. (touched-some (length ws) R (λ i. false) j t).2)))),
      )

  -- the cut is empty exactly if m fits n
  pub cut-none : fits? R ws vs ≡ true → (i : ℕ) → i < length ws → cut R ws vs i ≡ false
  cut-none e i l =
      is_false (cut R ws vs i)
      (cut-least R ws vs (λ i. false)
      (let w = largest_gained R ws vs in
      le_antisymm (gain-largest R ws vs (λ i. false)) (omega (arith, gain-none, w.1, fits-gain R ws vs (true_T e) w.0))) i l)

  pub cut-some : fits? R ws vs ≡ false → (i : ℕ) × (i < length ws) × (cut R ws vs i ≡ true)
  cut-some e =
      ⊎_elim
      (λ t. let r = any_some (length ws) (cut R ws vs) t in (r.0, r.1, is_true (cut R ws vs r.0) r.2))
      (λ f.
      absurd
      (let none : (i : ℕ) → i < length ws → cut R ws vs i ≡ false = λ i l. is_false (cut R ws vs i) (λ t. T_not (any (length ws) (cut R ws vs)) f (some-any (length ws) (cut R ws vs) i l t)) in
      omega (arith, gain_ext R ws vs (cut R ws vs) (λ i. false) none, gain-none, cut_excess R ws vs (fails e))))
      (true_or_not (any (length ws) (cut R ws vs)))
