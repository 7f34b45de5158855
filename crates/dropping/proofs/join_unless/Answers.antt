-- `dropping::join_unless` meets its contract.
-- Assumes nothing.
use Rattle.dropping.proofs.Dropping.{judged_pass, judged_fail}
use Rattle.dropping.proofs.join_unless.Goals as goal

pub returns-then-passes : goal.returns-then-passes
returns-then-passes c = judged_pass _ c.if-passes.true

pub insert-requires : goal.insert-requires
insert-requires c = c.requires

pub returns : goal.returns
returns c = judged_fail _ c.if-passes.false c.insert.ensures
