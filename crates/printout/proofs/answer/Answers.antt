-- `printout::answer` meets its contract. Assumes nothing.
use Rattle.printout.proofs.Printing.{without-room, with_text}
use Rattle.printout.proofs.answer.Goals as goal

pub returns-then-a-eq22-clause-answered : goal.returns-then-a-eq22-clause-answered
returns-then-a-eq22-clause-answered c =
    without-room c.args.input.now c.first_table-first.ensures c.second_table-second.ensures c.check-a.ensures c.if-a-eq22.true

pub returns-clause-answered : goal.returns-clause-answered
returns-clause-answered c =
    with_text c.args.input.now c.first_table-first.ensures c.second_table-second.ensures c.check-a.ensures c.requires.0 c.requires.1
    c.if-a-eq22.false c.print.ensures
