-- Chains of contracts (02, E14): a first table is judged against a middle one, and that against a last one.
-- Assumes nothing.
use Rattle.std.specs.Prelude.{◌⊎◌, ◌↔◌, ℕ, ◌≤◌, ◌<◌, T}
use Rattle.simulation.specs.Table.{Table}
use Rattle.simulation.specs.Complete.{lists}

-- n is from 1 to r
abbrev pub UpTo : (r n : ℕ) → Type 0
UpTo r n = (0 < n) × (n ≤ r)

-- of the ranks of (a, c), (a, b) and (b, c): if the first is r above 0, one of the others is from 1 to r
abbrev pub Chained : (ac ab bc : ℕ) → Type 0
Chained ac ab bc = 0 < ac → UpTo ac ab ⊎ UpTo ac bc

-- what it takes: the middle table lists every code that the first and the last both list
abbrev pub Mediates : (A B C : Table) → Type 0
Mediates A B C = (c : ℕ) → T (lists A.codes c) → T (lists C.codes c) → T (lists B.codes c)

-- so in a chain of tables that list the same codes
abbrev pub SameCodes : (M N : Table) → Type 0
SameCodes M N = (c : ℕ) → T (lists M.codes c) ↔ T (lists N.codes c)
