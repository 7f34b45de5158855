-- `form::Form::width` meets its contract. Assumes nothing.
use mathlib.Core.Path.{sym, ◌∙◌}
use Rattle.form.specs.Form.{table_of}
use Rattle.form.proofs.Completed.{contract-states}
use Rattle.form.proofs.form.Form.width.Goals as goal

pub returns : goal.returns
returns c = λ M. c.states.ensures ∙ sym (contract-states M (table_of c.args.self.now.numbers.now))
