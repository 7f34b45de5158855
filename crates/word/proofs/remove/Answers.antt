-- `word::remove` meets its contract. Assumes nothing.
use Rattle.word.proofs.Mask.{without_is}
use Rattle.word.proofs.remove.Goals as goal

pub returns : goal.returns
returns c = without_is c.args.set c.single.result c.args.t c.ranges.set.fits c.single.type_inv c.single.ensures
