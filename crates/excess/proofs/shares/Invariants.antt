-- `excess::shares` meets its contract: the weights passed are scaled. Assumes nothing.
use Rattle.excess.proofs.Parts.{Scaled}
use Rattle.excess.proofs.shares.Given as goal

abbrev pub invariant-loop-i : goal.invariant-loop-i
invariant-loop-i l = Scaled l.t l.weights l.i l.shares
