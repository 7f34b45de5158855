-- `word::single` meets its contract. Assumes nothing.
use Rattle.word.proofs.Mask.{only-is}
use Rattle.word.proofs.single.Goals as goal

pub returns : goal.returns
returns c = only-is c.args.t c.requires
