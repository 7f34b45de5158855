-- `word::intersection` meets its contract. Assumes nothing.
use Rattle.word.proofs.Mask.{both_is}
use Rattle.word.proofs.intersection.Goals as goal

pub returns : goal.returns
returns c = both_is c.args.a c.args.b
