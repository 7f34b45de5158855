-- `Trail::pass_row` meets its contract. Assumes nothing.
use Rattle.set.specs.Words.{mask}
use Rattle.passing.proofs.Walks.{RowAt}
use Rattle.passing.proofs.Trail.pass_row.Given as goal

abbrev pub invariant-loop-t : goal.invariant-loop-t
invariant-loop-t l = RowAt l.tables l.ranks l.rank l.s l.initial.self l.self (mask l.t-iterator.left)
