-- `items::items::code_at` meets its contract.
-- Assumes nothing.
use mathlib.Core.Path.{sym, ◌∙◌}
use Rattle.layout.proofs.Bounds.{code-at-is}
use Rattle.items.proofs.items.code_at.Goals as goal

pub returns : goal.returns
returns c = record { is = c.field_at.ensures.is ∙ sym (code-at-is _ _ _); small = c.field_at.ensures.small }
