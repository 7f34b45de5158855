-- When one distribution can be shared out over another (01, "Keeping, ranking, sharing out"; source 001, definition 4 and lemma 1).
-- A distribution is the list of its weights, and a target is a position of that list. A relation is between positions.
-- Assumes nothing.
use Rattle.std.specs.Prelude.{◌≡◌, Bool, true, false, ◌&&◌, ◌||◌, List, [], ◌∷◌, ◌++◌, map, ◌≢◌, ◌↔◌, ℕ, zero, suc, ◌+◌, ◌*◌, ◌≤◌, ◌<◌, max, T, eqb, length, get_or}
use Rattle.std.proofs.Math.Bool.{not}
use Rattle.std.proofs.Math.Dec.{leb, ltb}
use Rattle.simulation.specs.Sum.{sum, any, when}

abbrev pub weight : List ℕ → ℕ → ℕ
weight ws i = get_or ws i 0

unfoldable pub total : List ℕ → ℕ
unfolding sum
total ws = sum (length ws) (weight ws)

-- no weight is zero
abbrev pub Positive : List ℕ → Type 0
Positive ws = (i : ℕ) → i < length ws → 0 < weight ws i

abbrev pub Amounts : Type 0
Amounts = ℕ → ℕ → ℕ

-- 01: the amounts are not zero only on related pairs of targets; each target of m sends out weight × U, each target of n takes in weight × T
pub record Shares (R : ℕ → ℕ → Type 0) (ws vs : List ℕ) (amount : Amounts) : Type 0 where
  pub support : (i j : ℕ) → i < length ws → j < length vs → amount i j ≢ 0 → R i j
  pub sent : (i : ℕ) → i < length ws → sum (length vs) (λ j. amount i j) ≡ weight ws i * total vs
  pub taken : (j : ℕ) → j < length vs → sum (length ws) (λ i. amount i j) ≡ weight vs j * total ws

-- m fits n
pub record Fits (R : ℕ → ℕ → Type 0) (ws vs : List ℕ) : Type 0 where
  pub amount : Amounts
  pub shares : Shares R ws vs amount

-- Source 001, definition 4: a weight function with rational values, here amount / denominator, whose sums are the chances weight / total.
pub record Weighting (R : ℕ → ℕ → Type 0) (ws vs : List ℕ) : Type 0 where
  pub denominator : ℕ
  pub positive : 0 < denominator
  pub amount : Amounts
  pub support : (i j : ℕ) → i < length ws → j < length vs → amount i j ≢ 0 → R i j
  pub sent : (i : ℕ) → i < length ws → total ws * sum (length vs) (λ j. amount i j) ≡ denominator * weight ws i
  pub taken : (j : ℕ) → j < length vs → total vs * sum (length ws) (λ i. amount i j) ≡ denominator * weight vs j

-- a set of targets is a test on positions
abbrev pub Set : Type 0
Set = ℕ → Bool

abbrev pub weight_of : List ℕ → Set → ℕ
weight_of ws S = sum (length ws) (λ i. when (S i) (weight ws i))

-- some member of S below p is related to j
abbrev pub touched : ℕ → (ℕ → ℕ → Bool) → Set → ℕ → Bool
touched p R S j = any p (λ i. S i && R i j)

-- every set of positions below n
unfoldable pub sets : ℕ → List Set
sets zero = (λ i. false) ∷ []
sets (suc n) = sets n ++ map (λ (S : Set) i. eqb i n || S i) (sets n)

unfoldable pub largest : (Set → ℕ) → List Set → ℕ
largest f [] = 0
largest f (S ∷ l) = max (f S) (largest f l)

unfoldable pub every : (Set → Bool) → List Set → Bool
every f [] = true
every f (S ∷ l) = f S && every f l

module _ (R : ℕ → ℕ → Bool) (ws vs : List ℕ) where
  -- U × weight of S, and T × weight of the targets of n that no member of S is related to: 01's excess of S, plus T × U
  unfoldable pub gain : Set → ℕ
  unfolding sum any total
  gain S = total vs * weight_of ws S + total ws * weight_of vs (λ j. not (touched (length ws) R S j))

  unfoldable pub largest_gain : ℕ
  unfolding sets largest gain
  largest_gain = largest gain (sets (length ws))

  -- lemma 1: no set has positive excess
  unfoldable pub fits? : Bool
  unfolding largest_gain
  fits? = leb largest_gain (total ws * total vs)

  -- 01's smallest of the sets with the largest excess: the targets that lie in every set of the largest gain
  unfoldable pub cut : Set
  unfolding every sets gain largest_gain
  cut i = every (λ S. S i || ltb (gain S) largest_gain) (sets (length ws))

  -- 01's excess of S is not positive: U × weight of S is at most T × weight of the targets of n that some member of S is related to
  abbrev pub NoExcess : Set → Type 0
  NoExcess S = total vs * weight_of ws S ≤ total ws * weight_of vs (touched (length ws) R S)

  -- lemma 1: the test, whole amounts, rational weights and the sets of targets say the same
  pub record Lemma1 : Type 0 where
    pub whole : T fits? ↔ Fits (λ i j. T (R i j)) ws vs
    pub rational : T fits? ↔ Weighting (λ i j. T (R i j)) ws vs
    pub by_sets : T fits? ↔ ((S : Set) → NoExcess S)

  -- C is the one smallest set of the largest excess: no set gains more, and each that gains as much holds C
  pub record Smallest (C : Set) : Type 0 where
    pub most : (S : Set) → gain S ≤ gain C
    pub within : (S : Set) → gain S ≡ gain C → (i : ℕ) → i < length ws → T (C i) → T (S i)
