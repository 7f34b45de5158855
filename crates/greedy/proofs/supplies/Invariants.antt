-- `supplies` meets its contract. Assumes nothing.
use Rattle.greedy.specs.Start.{Supplies}
use Rattle.greedy.proofs.supplies.Given as goal

abbrev pub invariant-loop-i : goal.invariant-loop-i
invariant-loop-i l = Supplies l.weights l.other l.i l.supply
