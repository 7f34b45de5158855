-- `form::Form::weights` meets its contract. Assumes nothing.
use mathlib.Core.Path.{sym, ◌∙◌}
use native.Mathlib.Omega.{arith}
use Rattle.form.specs.Form.{weights_from}
use Rattle.form.proofs.FormLaws.{span, weights-column}
use Rattle.form.proofs.Known.{loaded}
use Rattle.form.proofs.form.Form.weights.Goals as goal

pub column-requires : goal.column-requires
column-requires c =
    let f = c.args.self.now in
    span f.numbers.now (loaded f) c.args.j c.requires weights_from (omega (arith, (loaded f).room))

pub returns : goal.returns
returns c = c.column.ensures ∙ sym (weights-column c.args.self.now.numbers.now c.args.j)
