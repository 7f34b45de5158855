-- `dropping::drop_rows` meets its contract: the rows that are not left are judged. Assumes nothing.
use Rattle.set.specs.Words.{mask}
use Rattle.fit.specs.Known.{Tried}
use Rattle.links.specs.Links.{SameMarks}
use Rattle.dropping.proofs.Dropping.{Waiting}
use Rattle.dropping.proofs.drop_rows.Given as goal

abbrev pub invariant-loop-s : goal.invariant-loop-s
invariant-loop-s l =
    Waiting l.fn.tables l.fn.rows (mask l.s-iterator.left) l.marks (mask l.fell) × Tried l.fn.tables l.fn.rows l.tried
    × SameMarks l.initial.marks l.marks
