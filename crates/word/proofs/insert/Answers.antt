-- `word::insert` meets its contract. Assumes nothing.
use mathlib.Core.Path.{◌∙◌, ap}
use Rattle.word.specs.Mask.{member, either}
use Rattle.word.proofs.Mask.{either_is}
use Rattle.word.proofs.insert.Goals as goal

pub returns : goal.returns
returns c = either_is c.single.result c.args.set ∙ ap (λ X. either X (member c.args.set)) c.single.ensures
