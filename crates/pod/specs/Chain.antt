-- Chains of contracts (02, E14), of calls of the check: a pod is judged against a family's contract, and that against the analyser's.
-- proofs/Chain proves of three calls what simulation/specs/Chain says of three ranks.
-- Assumes nothing.
use Rattle.std.specs.Prelude.{◌≡◌, List, ◌⊎◌, ℕ, ◌≤◌}
use Rattle.simulation.specs.Table.{Table}
use Rattle.layout.specs.Bytes.{accepted, decode}
use Rattle.compare.specs.Outcome.{Buffers, Result}
use Rattle.pod.specs.Check.{Checked}
use Rattle.pod.specs.Demands.{rank_at}

-- by the number of an answer: after success, and after 21 to 23, the ranks are filled in
abbrev pub Filled : ℕ → Type 0
Filled n = (n ≡ 0) ⊎ ((21 ≤ n) × (n ≤ 23))

-- a call on bytes that hold M and N, for any pair and with any buffers, that filled in the ranks
pub record Ranked (M N : Table) : Type 0 where
  pub first : List ℕ
  pub second : List ℕ
  pub s : ℕ
  pub t : ℕ
  pub buffers : Buffers
  pub result : Result
  pub first_holds : decode first ≡ accepted M
  pub second_holds : decode second ≡ accepted N
  pub call : Checked first second s t buffers result
  pub filled : Filled result.answer.number

-- the rank that it left for a pair
abbrev pub rank_left : {M N : Table} → Ranked M N → ℕ → ℕ → ℕ
rank_left {M} {N} x = rank_at M N x.s x.t x.buffers x.result

-- its answer is yes
abbrev pub Yes : {M N : Table} → Ranked M N → Type 0
Yes x = x.result.answer.verdict ≡ 1
