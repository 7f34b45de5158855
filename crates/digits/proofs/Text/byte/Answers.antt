-- `digits::Text::byte` meets its contract. Assumes nothing.
use Rattle.std.proofs.Common.{rules}
use Rattle.digits.specs.Appending.{append}
use Rattle.digits.proofs.Text.byte.Goals as goal

pub returns : goal.returns
unfolding append
returns c = search rules
