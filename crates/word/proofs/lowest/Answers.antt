-- `word::lowest` meets its contract. Assumes nothing.
use native.Mathlib.Omega.{arith}
use Rattle.word.specs.Mask.{word_bits}
use Rattle.word.proofs.Mask.{lowest_of}
use Rattle.word.proofs.lowest.Goals as goal

pub overflow_cast-result : goal.overflow_cast-result
overflow_cast-result c = omega (arith, (lowest_of word_bits c.args.set c.ranges.set.fits c.requires).0)

pub returns : goal.returns
returns c = lowest_of word_bits c.args.set c.ranges.set.fits c.requires
