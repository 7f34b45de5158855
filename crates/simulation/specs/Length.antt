-- How many bytes a pair's tree takes, from the lengths of pairs of lower rank: no tree is made.
-- Assumes nothing.
use Prim.Native.Nat.{ℕ, zero, suc, ◌+◌}
use Rattle.std.specs.Prelude.{length}
use Rattle.simulation.specs.Limits.{wide}
use Rattle.simulation.specs.Sum.{sum, when}
use Rattle.simulation.specs.Table.{Table, target_at, states_of}
use Rattle.simulation.specs.Round.{round, rank}
use Rattle.simulation.specs.Tree.{witness, apart, chosen, set_of}

-- the bytes of a transition before its children: a code and a count
abbrev pub head_length : ℕ
head_length = wide + 1

module _ (M N : Table) where
  -- the bytes of a pair's transition, where `len` gives those of the pairs below it:
  -- its head, then for each target a state, a weight, a count and the transitions of its set
  unfoldable pub one_length : (ℕ → ℕ → ℕ) → ℕ → ℕ → ℕ
  unfolding sum round rank witness apart
  one_length len s t =
      head_length + sum (length (chosen M N s t).entries) (λ i. 4 + sum (states_of N) (λ t'. when (set_of M N s t i t') (len (target_at (chosen M N s t) i) t')))

  -- the fuel is at least the pair's rank
  unfoldable pub step_length : (fuel : ℕ) → ℕ → ℕ → ℕ
  unfolding one_length
  step_length zero s t = 0
  step_length (suc fuel) s t = one_length (step_length fuel) s t

  unfoldable pub pair_length : ℕ → ℕ → ℕ
  unfolding step_length rank
  pair_length s t = step_length (rank M N s t) s t

  -- the root's count, then its one transition
  abbrev pub tree_length : ℕ → ℕ → ℕ
  tree_length s t = 1 + pair_length s t
