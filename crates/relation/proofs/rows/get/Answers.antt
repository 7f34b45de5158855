-- `relation::rows::get` meets its contract. Assumes nothing.
use Rattle.relation.proofs.RowLaws.{row_get}
use Rattle.relation.proofs.rows.get.Goals as goal

pub returns : goal.returns
returns c = row_get c.args.rows.now c.args.s
