-- `digits::Text::word` meets its contract. Assumes nothing.
use Rattle.std.proofs.Common.{arith}
use Rattle.digits.specs.Appending.{append}
use Rattle.digits.proofs.Appending.{put_mid-sets}
use Rattle.digits.proofs.Text.word.Goals as goal

pub returns : goal.returns
unfolding append
returns c = grind (arith, put_mid-sets)
