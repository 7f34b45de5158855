-- `links::add_doubts` meets its contract: the rows passed have the doubts. Assumes nothing.
use Rattle.set.specs.Words.{mask}
use Rattle.links.specs.Links.{RowsGrown}
use Rattle.links.proofs.Walks.{EachPassed}
use Rattle.links.proofs.Doubting.{InDoubt}
use Rattle.links.proofs.add_doubts.Given as goal

abbrev pub invariant-loop-s : goal.invariant-loop-s
invariant-loop-s l = RowsGrown l.initial.doubt l.doubt × EachPassed l.fn.set (mask l.s-iterator.left) (InDoubt (mask l.more) l.doubt)
