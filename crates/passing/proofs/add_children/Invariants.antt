-- `passing::add_children` meets its contract: the pairs of the targets passed are added. Assumes nothing.
use Rattle.set.specs.Words.{mask}
use Rattle.passing.proofs.Listing.{ChildrenLoop}
use Rattle.passing.proofs.add_children.Given as goal

abbrev pub invariant-loop-i : goal.invariant-loop-i
invariant-loop-i l = ChildrenLoop l.targets l.sets l.initial.todo (mask l.initial.all) l.todo (mask l.all) l.i
