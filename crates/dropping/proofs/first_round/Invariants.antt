-- `dropping::first_round` meets its contract: the rows before s are judged. Assumes nothing.
use lib.Dec.{leb}
use Rattle.simulation.specs.Round.{round}
use Rattle.set.specs.Words.{mask}
use Rattle.form.specs.Tables.{first_table, contract_table}
use Rattle.links.specs.Links.{SameMarks}
use Rattle.dropping.proofs.Dropping.{Finding}
use Rattle.dropping.proofs.first_round.Given as goal

abbrev pub invariant-loop-s : goal.invariant-loop-s
invariant-loop-s l =
    Finding (first_table l.tables) (contract_table l.tables) (round (first_table l.tables) (contract_table l.tables) 0) (leb l.s) l.marks.lost.now (mask l.fell)
    × SameMarks l.initial.marks l.marks
