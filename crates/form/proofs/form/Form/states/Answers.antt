-- `form::Form::states` meets its contract. Assumes nothing.
use mathlib.Core.Path.{sym, ◌∙◌}
use Rattle.form.specs.Form.{count_of}
use Rattle.form.proofs.FormLaws.{states-count}
use Rattle.form.proofs.form.Form.states.Goals as goal

pub returns : goal.returns
unfolding count_of
returns c = c.number.ensures ∙ sym (states-count c.args.self.now.numbers.now)
