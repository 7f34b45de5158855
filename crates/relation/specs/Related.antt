-- A relation as a test on pairs.
-- Assumes nothing.
use Rattle.std.specs.Prelude.{Bool, false, not, ◌&&◌, List, ℕ, eqb, ltb}
use Rattle.simulation.specs.Limits.{most_states}
use Rattle.simulation.specs.Sum.{sum}
use Rattle.word.specs.Mask.{Test, member, size}
use Rattle.relation.specs.Rows.{row_of}
use Rattle.relation.specs.declared.Relation.{Relation}

-- the rows have the pair (s, t)
abbrev pub holds : List ℕ → ℕ → ℕ → Bool
holds rows s t = member (row_of rows s) t

unfoldable pub related : Relation → ℕ → Test
unfolding member row_of
related r s = holds r.rows s

abbrev pub none : ℕ → Test
none s t = false

abbrev pub all_below : ℕ → ℕ → ℕ → Test
all_below p q s t = ltb s p && ltb t q

abbrev pub without : ℕ → ℕ → (ℕ → Test) → ℕ → Test
without s t R a b = R a b && not (eqb a s && eqb b t)

-- how many pairs the first n rows have
abbrev pub pairs_of : ℕ → (ℕ → Test) → ℕ
pairs_of n R = sum n (λ s. size most_states (R s))
