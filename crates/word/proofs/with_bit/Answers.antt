-- `word::with_bit` meets its contract. Assumes nothing.
use Rattle.word.proofs.Mask.{with_bit-is}
use Rattle.word.proofs.with_bit.Goals as goal

pub returns : goal.returns
returns c = with_bit-is c.args.set c.args.t c.args.b c.requires.0 c.requires.1
