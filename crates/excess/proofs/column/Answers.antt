-- `excess::column` meets its contract: each place is asked. Assumes nothing.
use lib.ListN.{get_or}
use borrow.Author.Rules.{rules}
use Rattle.relation.specs.Related.{holds}
use Rattle.excess.proofs.column.Goals as goal

pub returns : goal.returns
returns c =
    let a = c.args in
    c.from_fn.ensures (λ i. holds a.rows.now (get_or a.from.now i 0) a.t) (λ i b lt e. search rules)
