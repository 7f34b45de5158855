-- `choice::other_targets` meets its contract: the targets passed are united. Assumes nothing.
use lib.Dec.{eqb}
use lib.ListN.{length, get_or}
use Rattle.word.specs.Mask.{member, up_to, except}
use Rattle.set.specs.Words.{mask}
use Rattle.choice.proofs.Choosing.{Uniting}
use Rattle.choice.proofs.other_targets.Given as goal

abbrev pub invariant-loop-j : goal.invariant-loop-j
invariant-loop-j l =
    Uniting (λ j u. eqb u (get_or l.targets j 0)) (except (up_to (length l.targets)) (member (mask l.fn.named))) (mask l.j-iterator.left) (mask l.states)
