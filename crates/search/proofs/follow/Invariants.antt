-- `search::follow` meets its contract: the senders of the columns passed are reached. Assumes nothing.
use Rattle.set.specs.Words.{mask}
use Rattle.search.specs.Links.{from, via}
use Rattle.search.proofs.SearchLaws.{Following}
use Rattle.search.proofs.follow.Given as goal

abbrev pub invariant-loop-j : goal.invariant-loop-j
invariant-loop-j l =
    Following l.senders (mask l.fn.columns) (mask l.j-iterator.left) l.r (mask l.initial.all) (mask l.all) (from l.initial.links) (via l.initial.links) (from l.links) (via l.links)
