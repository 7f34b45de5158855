-- `word::count` meets its contract. Assumes nothing.
use Rattle.word.specs.Mask.{word_bits}
use Rattle.word.proofs.Mask.{ones_size}
use Rattle.word.proofs.count.Goals as goal

pub returns : goal.returns
returns c = ones_size word_bits c.args.set c.ranges.set.fits
