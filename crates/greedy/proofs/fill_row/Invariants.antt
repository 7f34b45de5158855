-- `fill_row` meets its contract: the flow, the set of the free columns and what is filled go on column by column. Assumes nothing.
use Rattle.set.specs.Words.{mask}
use Rattle.matrix.specs.Held.{held, SameLists}
use Rattle.greedy.proofs.GreedyLaws.{UnderWay}
use Rattle.greedy.proofs.fill_row.Given as goal

abbrev pub invariant-loop-j : goal.invariant-loop-j
invariant-loop-j l = UnderWay l.i l.rel (held l.initial.flow) (held l.flow) (mask l.still) (mask l.j-iterator.left) × SameLists l.initial.flow l.flow
