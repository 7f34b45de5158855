-- `form::Form::code` meets its contract. Assumes nothing.
use native.Mathlib.Omega.{arith}
use Rattle.form.specs.Form.{transition_at}
use Rattle.form.proofs.Known.{loaded}
use Rattle.form.proofs.form.Form.code.Goals as goal

pub number-requires : goal.number-requires
number-requires c = omega (arith, (loaded c.args.self.now).few_transitions)

pub returns : goal.returns
unfolding transition_at
returns c = c.number.ensures
