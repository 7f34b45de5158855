-- `word::without_lowest` meets its contract. Assumes nothing.
use mathlib.Core.Path.{fun_ext}
use Rattle.word.proofs.Mask.{drop_lowest, drop_lowest_lt}
use Rattle.word.proofs.without_lowest.Goals as goal

pub returns : goal.returns
returns c = ((λ t l. fun_ext (drop_lowest t c.args.set l)), drop_lowest_lt c.args.set c.requires)
