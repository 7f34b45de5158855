-- `report::text::put_rows`: the rows of the first s states are in place. Assumes nothing.
use Rattle.std.proofs.Common.{◌≡◌}
use Rattle.digits.specs.Appending.{append}
use Rattle.report.specs.Text.{pieces, row_line}
use Rattle.report.proofs.text.put_rows.Given as goal

abbrev pub invariant-loop-s : goal.invariant-loop-s
invariant-loop-s l = l.text ≡ append l.initial.text (pieces (row_line l.ranks l.q) l.s)
