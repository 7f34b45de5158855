-- The pairs that a round drops: by codes alone in the first round, among the pairs in doubt in a later one.
-- Assumes nothing.
use Rattle.std.specs.Prelude.{◌≡◌, Bool, true, false, not, ◌&&◌, List, ◌≢◌, ℕ, ◌<◌, T}
use Rattle.relation.specs.Rows.{row_of}
use Rattle.word.specs.Mask.{Test, member, with_bit}
use Rattle.relation.specs.Related.{holds}
use Rattle.decision.specs.Fitting.{held}
use Rattle.fit.specs.Held.{matched}
use Rattle.simulation.specs.Sum.{when}
use Rattle.simulation.specs.Table.{Table, states_of}
use Rattle.simulation.specs.Round.{Relation, related, survives}

-- the pair (s, t) of R is not kept by the round after R
abbrev pub falls : Table → Table → Relation → ℕ → ℕ → Bool
falls M N R s t = related R s t && not (survives M N R s t)

-- lost holds the pairs that the round after R lacks
abbrev pub Falling : Table → Table → Relation → List ℕ → Type 0
Falling M N R lost = (s t : ℕ) → s < states_of M → holds lost s t ≡ falls M N R s t

-- lost holds the pairs that the round after R lacks, and fell the rows that have one
pub record Fallen (M N : Table) (R : Relation) (lost : List ℕ) (fell : ℕ) : Type 0 where
  pub exact : Falling M N R lost
  pub within : (s t : ℕ) → holds lost s t ≡ true → (s < states_of M) × (member fell s ≡ true)
  pub some : fell ≢ 0 → (s : ℕ) × (t : ℕ) × (s < states_of M) × T (holds lost s t)

-- t joins a set unless the test passes
pub record Judged (pass : Bool) (t x y : ℕ) : Type 0 where
  pub joins : member y ≡ with_bit t (when (not pass) 1) (member x)

-- a row has states of the second table only
abbrev pub StatesOnly : Table → ℕ → Type 0
StatesOnly N row = (t : ℕ) → T (member row t) → t < states_of N

-- every pair of R outside a set of the row s is kept by the next round
abbrev pub Doubtless : Table → Table → Relation → ℕ → Test → Type 0
Doubtless M N R s X = (t : ℕ) → X t ≡ false → T (related R s t) → T (matched M N R s t)

-- rows of states of the second table, and the pairs in doubt, which lie in the rows of a set of states of the first: no other pair falls
pub record DoubtsKnown (M N : Table) (rows : List ℕ) (doubtful : ℕ) (doubt : List ℕ) : Type 0 where
  pub columns : (s : ℕ) → s < states_of M → StatesOnly N (row_of rows s)
  pub states : (s : ℕ) → member doubtful s ≡ true → s < states_of M
  pub sure : (s : ℕ) → s < states_of M → Doubtless M N (held M N rows) s (λ t. member doubtful s && holds doubt s t)
