-- `word::difference` meets its contract. Assumes nothing.
use Rattle.word.proofs.Mask.{except-is}
use Rattle.word.proofs.difference.Goals as goal

pub returns : goal.returns
returns c = except-is c.args.a c.args.b c.ranges.a.fits c.ranges.b.fits
