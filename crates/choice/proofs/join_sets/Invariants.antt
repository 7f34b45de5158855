-- `choice::join_sets` meets its contract: the sets of the members passed are joined. Assumes nothing.
use Rattle.set.specs.Words.{mask}
use Rattle.choice.proofs.Choosing.{Joining}
use Rattle.choice.proofs.join_sets.Given as goal

abbrev pub invariant-loop-i : goal.invariant-loop-i
invariant-loop-i l = Joining (mask l.fn.named) (mask l.more) l.initial.sets l.sets (mask l.i-iterator.left)
