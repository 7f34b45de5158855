-- `lacking::unanswered` meets its contract. Assumes nothing.
use mathlib.Core.Path.{sym, ap, ◌∙◌}
use Rattle.word.specs.Mask.{member}
use Rattle.lacking.proofs.Lacked.{lacks-listed, lacks-added}
use Rattle.lacking.proofs.unanswered.Goals as goal

pub returns-then-lists : goal.returns-then-lists
returns-then-lists c =
    let a = c.args in
    c.lacking.ensures ∙ lacks-listed a.tables.now a.code (sym c.lists.ensures ∙ c.if-lists.true)

pub returns : goal.returns
returns c =
    ap member c.empty.ensures ∙ lacks-added c.args.tables.now c.args.code c.requires.0 c.requires.1 (sym c.lists.ensures ∙ c.if-lists.false)
