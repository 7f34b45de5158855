-- `clear` meets its contract. Assumes nothing.
use Rattle.greedy.specs.Start.{Cleared}
use Rattle.greedy.proofs.clear.Given as goal

abbrev pub invariant-loop-i : goal.invariant-loop-i
invariant-loop-i l = Cleared l.i l.q l.initial.amounts l.amounts
