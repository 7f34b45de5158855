-- `search::link_rows` meets its contract: the rows passed are linked. Assumes nothing.
use Rattle.set.specs.Words.{mask}
use Rattle.search.specs.Links.{from, via}
use Rattle.search.proofs.SearchLaws.{Linking}
use Rattle.search.proofs.link_rows.Given as goal

abbrev pub invariant-loop-i : goal.invariant-loop-i
invariant-loop-i l = Linking (mask l.fn.rows) (mask l.i-iterator.left) l.r l.j (from l.initial.links) (via l.initial.links) (from l.links) (via l.links)
