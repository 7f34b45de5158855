-- `choice::reached` meets its contract: the rows passed are united. Assumes nothing.
use Rattle.word.specs.Mask.{member}
use Rattle.set.specs.Words.{mask}
use Rattle.relation.specs.Related.{holds}
use Rattle.choice.proofs.Choosing.{Uniting}
use Rattle.choice.proofs.reached.Given as goal

abbrev pub invariant-loop-i : goal.invariant-loop-i
invariant-loop-i l = Uniting (holds l.rel) (member (mask l.fn.named)) (mask l.i-iterator.left) (mask l.near)
