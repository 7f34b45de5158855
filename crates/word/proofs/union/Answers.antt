-- `word::union` meets its contract. Assumes nothing.
use Rattle.word.proofs.Mask.{either_is}
use Rattle.word.proofs.union.Goals as goal

pub returns : goal.returns
returns c = either_is c.args.a c.args.b
