-- `form::Form::entries_listed` meets its contract. Assumes nothing.
use native.Mathlib.Omega.{arith}
use Rattle.form.specs.Form.{entries_listed}
use Rattle.form.proofs.Known.{loaded}
use Rattle.form.proofs.form.Form.entries_listed.Goals as goal

pub number-requires : goal.number-requires
number-requires c = omega (arith, (loaded c.args.self.now).few_transitions)

pub returns : goal.returns
unfolding entries_listed
returns c = c.number.ensures
