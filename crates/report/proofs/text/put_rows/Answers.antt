-- `report::text::put_rows` meets its contract. Assumes nothing.
use Rattle.std.proofs.Common.{arith}
use Rattle.std.proofs.lemmas.Nat.{rows}
use Rattle.report.specs.Text.{row_line, rows_text}
use Rattle.report.proofs.Writing.{writing, pieces-within}
use Rattle.report.proofs.text.put_rows.Goals as goal

pub put_row-requires : goal.put_row-requires
unfolding rows_text
put_row-requires c =
    let a = c.args in
    let l = c.loop-s in
    (grind (arith, rows), grind (arith, writing, pieces-within (row_line a.ranks.now a.q) l.s a.p c.loop-s-test.true))
