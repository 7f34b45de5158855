-- `form::Form::start_of` meets its contract. Assumes nothing.
use native.Mathlib.Omega.{arith}
use Rattle.form.specs.Form.{start_of}
use Rattle.form.proofs.Known.{loaded}
use Rattle.form.proofs.form.Form.start_of.Goals as goal

pub number-requires : goal.number-requires
number-requires c = omega (arith, (loaded c.args.self.now).valid.shape.few_states)

pub returns : goal.returns
unfolding start_of
returns c = c.number.ensures
