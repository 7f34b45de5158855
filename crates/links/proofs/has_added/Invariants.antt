-- `links::has_added` meets its contract. The loop's invariant: the second table lists the codes of the transitions passed.
-- Assumes nothing.
use Rattle.links.specs.Links.{ListedBefore}
use Rattle.links.proofs.has_added.Given as goal

abbrev pub invariant-loop-j : goal.invariant-loop-j
invariant-loop-j l = ListedBefore l.tables l.j
