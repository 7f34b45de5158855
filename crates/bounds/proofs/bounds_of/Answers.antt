-- `bounds::bounds_of` meets its contract: all states, and none, are bounds of any targets. Assumes nothing.
use Rattle.bounds.proofs.Covering.{bounds_of_all}
use Rattle.bounds.proofs.bounds_of.Goals as goal

pub returns-then-from-gt-MANY : goal.returns-then-from-gt-MANY
returns-then-from-gt-MANY c = let a = c.args in bounds_of_all a.rows.now a.from.now _ _ c.below.ensures c.empty.ensures
