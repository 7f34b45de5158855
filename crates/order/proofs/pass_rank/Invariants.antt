-- `order::pass_rank` meets its contract. Assumes nothing.
use Rattle.set.specs.Words.{mask}
use Rattle.order.proofs.Walks.{RankAt}
use Rattle.order.proofs.pass_rank.Given as goal

abbrev pub invariant-loop-s : goal.invariant-loop-s
invariant-loop-s l = RankAt l.tables l.ranks l.rank l.initial.trail l.trail (mask l.s-iterator.left)
