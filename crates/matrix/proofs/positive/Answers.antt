-- `positive` meets its contract: the places are tested. Assumes nothing.
use borrow.Author.Rules.{rules}
use Rattle.matrix.specs.Masks.{nonzero}
use Rattle.matrix.proofs.MaskedLaws.{mask_of_part}
use lib.ListN.{get_or}
use Rattle.matrix.proofs.positive.Goals as goal

pub returns : goal.returns
returns c = mask_of_part (c.from_fn.ensures (λ i. nonzero (get_or c.args.numbers.now i 0)) (λ i b lt e. search rules))
