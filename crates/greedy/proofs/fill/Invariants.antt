-- `fill` meets its contract: the flow and the set of the free columns go on row by row. Assumes nothing.
use Rattle.set.specs.Words.{mask}
use Rattle.matrix.specs.Held.{held, SameLists}
use Rattle.greedy.proofs.GreedyLaws.{RowsFilled}
use Rattle.greedy.proofs.fill.Given as goal

abbrev pub invariant-loop-i : goal.invariant-loop-i
invariant-loop-i l = RowsFilled l.i l.rel (held l.initial.flow) (held l.flow) (mask l.free) × SameLists l.initial.flow l.flow
