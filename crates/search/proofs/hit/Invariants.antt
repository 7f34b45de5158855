-- `search::hit` meets its contract: the rows passed have no free column. Assumes nothing.
use Rattle.set.specs.Words.{mask}
use Rattle.search.proofs.SearchLaws.{Hitting}
use Rattle.search.proofs.hit.Given as goal

abbrev pub invariant-loop-r : goal.invariant-loop-r
invariant-loop-r l = Hitting l.rel (mask l.free) (mask l.fn.rows) (mask l.r-iterator.left)
