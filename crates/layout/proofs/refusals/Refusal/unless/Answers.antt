-- `layout::Refusal::unless` meets its contract.
-- Assumes nothing.
use Rattle.layout.proofs.Laws.{refused_unless, not_refused}
use Rattle.layout.proofs.refusals.Refusal.unless.Goals as goal

pub returns-then-test : goal.returns-then-test
returns-then-test c = not_refused _ c.if-test.true

pub returns-else-test : goal.returns-else-test
returns-else-test c = refused_unless _ c.if-test.false
