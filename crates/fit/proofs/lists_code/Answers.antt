-- `fit::lists_code` meets its contract: the code of a transition is listed. Assumes nothing.
use mathlib.Core.Path.{sym, ◌∙◌}
use Rattle.simulation.proofs.Finite.Tests.{is_true, true_T}
use Rattle.form.specs.Tables.{second_form}
use Rattle.fit.proofs.Codes.{coded-listed}
use Rattle.fit.proofs.lists_code.Goals as goal

pub returns-then-has_code : goal.returns-then-has_code
returns-then-has_code c =
    c.if-has_code.true
    ∙ sym (is_true _ (coded-listed (second_form c.args.tables.now) c.requires.0.second c.args.t c.args.code (true_T (sym c.has_code.ensures ∙ c.if-has_code.true))))
