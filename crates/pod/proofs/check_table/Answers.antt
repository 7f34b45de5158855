-- `pod::check_table` meets its contract.
-- Assumes nothing.
use mathlib.Core.Path.{sym, ◌∙◌}
use Rattle.pod.proofs.TableLaws.{table-accepted, table-refused}
use Rattle.pod.proofs.check_table.Goals as goal

pub returns-in-Ok : goal.returns-in-Ok
returns-in-Ok c = c.refused.ensures ∙ sym (table-accepted _ c.in-Ok.ensures)

pub returns-in-Err : goal.returns-in-Err
returns-in-Err c = rw (c.refused-in-Err.ensures, c.number.ensures) (sym (table-refused _ _ c.in-Err.ensures))
