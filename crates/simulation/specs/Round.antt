-- Rounds and ranks (01, "Keeping, ranking, sharing out").
-- Assumes nothing.
use Rattle.std.specs.Prelude.{Bool, cond, ◌&&◌, List, [], ◌∷◌, eqb, get_or}
use Rattle.std.proofs.Math.Bool.{true, false}
use Prim.Native.Nat.{ℕ, zero, suc, ◌+◌, ◌*◌, max}
use Rattle.simulation.specs.Sum.{below, concat, all_of, any_of}
use Rattle.simulation.specs.Fit.{fits?}
use Rattle.simulation.specs.Table.{Transition, Table, weights, target_at, states_of, steps}

-- a relation between the states of two tables, by rows
abbrev pub Relation : Type 0
Relation = List (List Bool)

abbrev pub related : Relation → ℕ → ℕ → Bool
related R s t = get_or (get_or R s []) t false

unfoldable pub relation : ℕ → ℕ → (ℕ → ℕ → Bool) → Relation
unfolding below
relation p q f = below 0 p (λ s. below 0 q (f s))

-- R between the targets of m and of n, by their positions
abbrev pub between : Relation → Transition → Transition → ℕ → ℕ → Bool
between R m n i j = related R (target_at m i) (target_at n j)

-- m fits n in R, and they have the same code
unfoldable pub fits_step : Relation → Transition → Transition → Bool
unfolding fits?
fits_step R m n = eqb m.code n.code && fits? (between R m n) (weights m) (weights n)

module _ (M N : Table) where
  -- the pair (s, t) of R is kept by the round after R
  unfoldable pub survives : Relation → ℕ → ℕ → Bool
  unfolding all_of any_of fits_step
  survives R s t = related R s t && all_of (λ m. any_of (fits_step R m) (steps N t)) (steps M s)

  unfoldable pub next : Relation → Relation
  unfolding survives relation
  next R = relation (states_of M) (states_of N) (survives R)

  unfoldable pub round : ℕ → Relation
  unfolding relation next
  round zero = relation (states_of M) (states_of N) (λ s t. true)
  round (suc k) = next (round k)

  abbrev pub pairs : ℕ
  pairs = states_of M * states_of N

  -- the first of the rounds k + 1, …, k + fuel that lacks the pair, 0 where none does; R is round k
  unfoldable pub rank_from : ℕ → ℕ → Relation → ℕ → ℕ → ℕ
  unfolding next
  rank_from zero k R s t = 0
  rank_from (suc fuel) k R s t =
      let R' : Relation = next R in
      let later : ℕ = rank_from fuel (suc k) R' s t in
      elim (related R' s t) [ true ↦ later | false ↦ suc k ]

  unfoldable pub rank : ℕ → ℕ → ℕ
  unfolding rank_from round
  rank s t = rank_from pairs 0 (round 0) s t

-- the ranks of all pairs, in the order s × states of the second table + t
unfoldable pub rank_list : Table → Table → List ℕ
unfolding below concat rank
rank_list M N = concat (below 0 (states_of M) (λ s. below 0 (states_of N) (rank M N s)))

-- the count of rounds is the largest rank
unfoldable pub maximum : List ℕ → ℕ
maximum [] = 0
maximum (x ∷ xs) = max x (maximum xs)

-- the count of kept pairs is the number of ranks that are 0
unfoldable pub zeros : List ℕ → ℕ
zeros [] = 0
zeros (x ∷ xs) = cond (eqb x 0) 1 0 + zeros xs
