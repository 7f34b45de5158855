-- `fit::fits_known` meets its contract: bounds on the related states decide, or else all that is left. Assumes nothing.
use mathlib.Core.Path.{sym, subst}
use lib.ListN.{length}
use Rattle.simulation.specs.Table.{targets}
use Rattle.set.specs.Words.{mask}
use Rattle.form.specs.Tables.{second_step}
use Rattle.bounds.specs.Quick.{SetOf}
use Rattle.fit.proofs.Sets.{set_at}
use Rattle.decision.specs.Fitting.{Asked}
use Rattle.decision.proofs.Fitting.{Tells, by_sets}
use Rattle.fit.proofs.Trying.{lent_asked}
use Rattle.fit.proofs.fits_known.Goals as goal
use Rattle.fit.proofs.fits_known.Goals.{After-get-to}

asked : (n : After-get-to) → let a = n.args in Asked a.tables.now a.rows.now a.amounts.now a.j a.l
asked n = lent_asked n.requires.0 n.args.j n.args.l n.requires.1 n.requires.2

-- the set has the targets of the second
target-set : (n : After-get-to) → let ts = targets (second_step n.args.tables.now n.args.l) in SetOf ts (length ts) (mask n.get-to.result)
target-set n = subst (SetOf _ _) (sym n.get-to.ensures) (set_at n.requires.0.target_sets n.args.l n.requires.2)

pub decide-requires : goal.decide-requires
decide-requires c = let n = (goal.at.decide-requires c).After-get-to in (asked n, target-set n)

pub returns-in-Some : goal.returns-in-Some
returns-in-Some c =
    let n = (goal.at.returns-in-Some c).After-get-to in
    subst (Tells _) c.in-Some.is (by_sets (asked n) (target-set n) c.requires.3 c.settle.result c.settle.ensures)
