-- `links::doubts` meets its contract: the rows that are not left have raised their doubts. Assumes nothing.
use Rattle.set.specs.Words.{mask}
use Rattle.links.specs.Links.{SameMarks}
use Rattle.links.proofs.Doubting.{Raised}
use Rattle.links.proofs.doubts.Given as goal

abbrev pub invariant-loop-u : goal.invariant-loop-u
invariant-loop-u l =
    Raised l.sets l.initial.marks (mask l.u-iterator.left) (mask l.doubtful) l.marks × SameMarks l.initial.marks l.marks
