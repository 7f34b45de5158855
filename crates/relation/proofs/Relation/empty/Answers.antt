-- `relation::Relation::empty` meets its contract. Assumes nothing.
use Rattle.relation.proofs.Relations.{empty-is}
use Rattle.relation.proofs.Relation.empty.Goals as goal

pub returns : goal.returns
returns c = empty-is
