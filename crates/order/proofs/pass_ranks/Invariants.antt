-- `order::pass_ranks` meets its contract. Assumes nothing.
use Rattle.order.proofs.Walks.{RanksAt}
use Rattle.order.proofs.pass_ranks.Given as goal

abbrev pub invariant-loop-rank : goal.invariant-loop-rank
invariant-loop-rank l = RanksAt l.tables l.ranks l.rank l.initial.trail l.trail
