-- `items::cursor::Cursor::part` meets its contract.
-- Assumes nothing.
use native.Mathlib.Omega.{arith}
use Rattle.layout.proofs.Laws.{leb_refused, leb_passes}
use Rattle.items.proofs.cursor.Cursor.part.Goals as goal

pub returns-then-s-at : goal.returns-then-s-at
returns-then-s-at c = grind (arith, leb_refused)

pub returns : goal.returns
returns c = grind (arith, leb_passes)
