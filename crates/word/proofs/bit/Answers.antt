-- `word::bit` meets its contract. Assumes nothing.
use Rattle.word.proofs.Mask.{bit_is}
use Rattle.word.proofs.bit.Goals as goal

pub returns : goal.returns
returns c = bit_is c.args.set c.args.t
