-- `row` meets its contract: each target's rank is asked. Assumes nothing.
use borrow.Author.Rules.{rules}
use Rattle.relate.specs.Rows.{ranked_row}
use Rattle.relate.proofs.between.row.Goals as goal

pub returns : goal.returns
returns c =
    let a = c.args in
    c.from_fn.ensures (ranked_row a.ranks.now a.width a.r a.s a.nt.now) (λ j b lt e. search rules)
