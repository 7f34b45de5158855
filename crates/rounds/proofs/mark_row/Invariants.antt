-- `rounds::mark_row` meets its contract: the members passed have their rank. Assumes nothing.
use mathlib.Core.Path.{◌≡◌}
use mathlib.Core.Bool.{true}
use Prim.Native.Nat.{ℕ}
use lib.ListN.{get_or}
use Rattle.word.specs.Mask.{member, except}
use Rattle.set.specs.Words.{mask}
use Rattle.rounds.specs.Rounds.{marked}
use Rattle.rounds.proofs.mark_row.Given as goal

abbrev pub invariant-loop-t : goal.invariant-loop-t
invariant-loop-t l =
    ((t : ℕ) → member (mask l.t-iterator.left) t ≡ true → member (mask l.fn.set) t ≡ true)
    × ((i : ℕ) → get_or l.ranks i 0 ≡ marked (except (member (mask l.fn.set)) (member (mask l.t-iterator.left))) l.base l.k l.initial.ranks i)
