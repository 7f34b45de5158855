-- What the product promises for two tables (demands 2 and 3; source 001, definitions 4, 5 and 7).
-- Assumes nothing.
use Rattle.std.specs.Prelude.{◌≡◌, List, ℕ, ◌≤◌, ◌<◌, length}
use Rattle.simulation.specs.Fit.{weight, Fits, Weighting}
use Rattle.simulation.specs.Table.{Table, weights, target_at, states_of, steps, transition}
use Rattle.simulation.specs.Round.{rank}
use Rattle.simulation.specs.Tree.{Tree, Proper, Follows, depth, tree}

-- What is needed of a table, and holds of every accepted one without its entries of weight 0:
-- each target is a state, each transition has an entry, each weight is at least 1
pub record Sound (M : Table) : Type 0 where
  pub target_bound : (s k i : ℕ) → k < length (steps M s) → i < length (weights (transition M s k)) → target_at (transition M s k) i < states_of M
  pub nonempty : (s k : ℕ) → k < length (steps M s) → 0 < length (weights (transition M s k))
  pub positive : (s k i : ℕ) → k < length (steps M s) → i < length (weights (transition M s k)) → 0 < weight (weights (transition M s k)) i

-- a way to share one distribution out over another, in a relation between positions: `Weighting` is source 001's, `Fits` is 01's
abbrev pub Fitting : Type 1
Fitting = (ℕ → ℕ → Type 0) → List ℕ → List ℕ → Type 0

-- Segala and Lynch's strong simulation (source 001, definition 5), for any relation, decidable or not:
-- of two related states, each transition of the first fits some transition of the second with the same code
pub record StrongSimulation (G : Fitting) (M N : Table) (R : ℕ → ℕ → Type 0) : Type 0 where
  pub simulates : (s t : ℕ) → s < states_of M → t < states_of N → R s t → (k : ℕ) → k < length (steps M s)
      → (l : ℕ) × (l < length (steps N t)) × ((transition M s k).code ≡ (transition N t l).code)
      × G (λ i j. R (target_at (transition M s k) i) (target_at (transition N t l) j)) (weights (transition M s k)) (weights (transition N t l))

pub record Greatest (G : Fitting) (M N : Table) (K : ℕ → ℕ → Type 0) : Type 1 where
  pub simulation : StrongSimulation G M N K
  pub contains : (R : ℕ → ℕ → Type 0) → StrongSimulation G M N R → (s t : ℕ) → s < states_of M → t < states_of N → R s t → K s t

-- the pair has rank 0
abbrev pub Kept : Table → Table → ℕ → ℕ → Type 0
Kept M N s t = rank M N s t ≡ 0

-- demand 2
abbrev pub Keeping : Fitting → Table → Table → Type 1
Keeping G M N = Greatest G M N (Kept M N)

-- t can follow every tree that s can
abbrev pub Covers : Table → Table → ℕ → ℕ → Type 0
Covers M N s t = (τ : Tree) → Proper τ → Follows M τ s → Follows N τ t

-- demand 3 at a pair: its rank r says how deep a tree must be that tells the two apart, and the pair's own tree is one that shallow
pub record Told (M N : Table) (s t r : ℕ) : Type 0 where
  pub covered : r ≡ 0 → Covers M N s t
  pub only : Covers M N s t → r ≡ 0
  pub least : (τ : Tree) → Proper τ → Follows M τ s → ¬ Follows N τ t → (0 < r) × (r ≤ depth τ)
  pub own_proper : 0 < r → Proper (tree M N s t)
  pub own_depth : 0 < r → depth (tree M N s t) ≡ r
  pub own_first : 0 < r → Follows M (tree M N s t) s
  pub own_second : 0 < r → ¬ Follows N (tree M N s t) t

pub record Demands (M N : Table) : Type 1 where
  pub weighted : Keeping Weighting M N
  pub whole : Keeping Fits M N
  pub told : (s t : ℕ) → s < states_of M → t < states_of N → Told M N s t (rank M N s t)
