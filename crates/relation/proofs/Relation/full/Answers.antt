-- `relation::Relation::full` meets its contract. Assumes nothing.
use Rattle.relation.proofs.Relations.{full_is}
use Rattle.relation.proofs.Relation.full.Goals as goal

pub returns : goal.returns
returns c = full_is
