-- `gather::row_word` meets its contract: each place is asked. Assumes nothing.
use borrow.Author.Rules.{rules}
use Rattle.relation.specs.Rows.{row_of}
use Rattle.gather.specs.Places.{row_at}
use Rattle.gather.proofs.row_word.Goals as goal

pub returns : goal.returns
returns c = c.from_fn.ensures (row_at (row_of c.args.rows.now c.args.s) c.args.to.now) (λ j b lt e. search rules)
