-- `set::Set::empty` meets its contract. Assumes nothing.
use Rattle.set.proofs.Sets.{mask-none}
use Rattle.set.proofs.Set.empty.Goals as goal

pub returns : goal.returns
returns c = mask-none
