-- `dropping::with_row` meets its contract.
-- Assumes nothing.
use Rattle.dropping.proofs.Dropping.{judged_is}
use Rattle.dropping.proofs.with_row.Goals as goal

pub join_unless-requires : goal.join_unless-requires
join_unless-requires c = c.requires

pub returns : goal.returns
returns c = judged_is c.is_empty.ensures c.join_unless.ensures
