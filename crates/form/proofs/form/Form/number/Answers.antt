-- `form::Form::number` meets its contract. Assumes nothing.
use native.Mathlib.Omega.{arith}
use Rattle.form.proofs.Known.{loaded}
use Rattle.form.proofs.form.Form.number.Goals as goal

pub bounds-self-place : goal.bounds-self-place
bounds-self-place c = omega (arith, (loaded c.args.self.now).room)
