-- `search::level` meets its contract: the rows passed have gone to all their columns. Assumes nothing.
use Rattle.set.specs.Words.{mask}
use Rattle.search.specs.Links.{from, via}
use Rattle.search.proofs.SearchLaws.{Levelling}
use Rattle.search.proofs.level.Given as goal

abbrev pub invariant-loop-r : goal.invariant-loop-r
invariant-loop-r l =
    Levelling l.rel l.senders (mask l.fn.rows) (mask l.r-iterator.left) (mask l.initial.gone) (mask l.gone) (mask l.initial.all) (mask l.all)
    (from l.initial.links) (via l.initial.links) (from l.links) (via l.links)
