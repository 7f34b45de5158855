-- `passing::close_row` meets its contract. Assumes nothing.
use Rattle.set.specs.Words.{mask}
use Rattle.set.proofs.Sets.{is_none}
use Rattle.counting.proofs.Pairs.{without_other}
use Rattle.passing.proofs.close_row.Goals as goal

pub returns-then-is_empty : goal.returns-then-is_empty
returns-then-is_empty c =
    λ u d h. without_other (mask c.args.rows) u c.remove.ensures (λ e. d e (is_none c.is_empty.ensures c.if-is_empty.true)) h
