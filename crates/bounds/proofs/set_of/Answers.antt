-- `bounds::set_of` meets its contract: the set has the targets passed. Assumes nothing.
use mathlib.Core.Path.{sym, subst}
use native.Mathlib.Omega.{arith}
use Rattle.bounds.specs.Quick.{SetOf}
use Rattle.bounds.proofs.Members.{set-start}
use Rattle.bounds.proofs.set_of.Goals as goal

pub loop-t-init : goal.loop-t-init
loop-t-init c = let to = c.args.to.now in (omega arith, subst (SetOf to 0) (sym c.empty-set.ensures) (set-start to))
