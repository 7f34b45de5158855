-- `rounds::settle` meets its contract: the rows that are not left are settled. Assumes nothing.
use Rattle.set.specs.Words.{mask}
use Rattle.rounds.specs.Rounds.{Settled}
use Rattle.rounds.proofs.Settling.{passed}
use Rattle.rounds.proofs.settle.Given as goal

abbrev pub invariant-loop-s : goal.invariant-loop-s
invariant-loop-s l = Settled l.q l.k (passed l.marks.lost.now (mask l.s-iterator.left)) l.initial.rows l.rows l.initial.ranks l.ranks
