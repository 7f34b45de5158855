-- `pod_c::pod_check_table` meets its contract: nothing in a short buffer, else the answer of `pod::check_table`.
-- Assumes nothing.
use mathlib.Core.Path.{sym, ap, ◌∙◌}
use borrow.Author.Rules.{rules}
use Rattle.answer.specs.Numbers.{with_answer}
use Rattle.answer.proofs.Into.{into_short, into_long}
use Rattle.pod_c.proofs.pod_check_table.Goals as goal

pub returns-then-answer-lt-FIELDS : goal.returns-then-answer-lt-FIELDS
returns-then-answer-lt-FIELDS c = sym (into_short _ _ c.if-answer-lt-FIELDS.true)

pub returns : goal.returns
returns c =
    let old = c.args.answer.now in
    c.put.ensures ∙ ap (λ a. with_answer a old) c.check_table.ensures ∙ sym (into_long _ old c.if-answer-lt-FIELDS.false)
