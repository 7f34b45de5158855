-- `decision::decide` meets its contract: a target of m that is related to none of n is a misfit. Assumes nothing.
use mathlib.Core.Path.{sym, subst, ◌∙◌}
use Rattle.relation.specs.Rows.{height}
use Rattle.gather.specs.Places.{Places}
use Rattle.decision.proofs.Fitting.{first_places, row_misfits}
use Rattle.decision.proofs.decide.Goals as goal

pub meets-met-requires : goal.meets-met-requires
meets-met-requires c =
    subst (Places (height c.args.rows.now)) (sym c.targets-from.ensures) (first_places c.requires.0)

pub returns-else-met : goal.returns-else-met
returns-else-met c =
    c.if-met.false ∙ row_misfits c.requires.0 c.requires.1 c.targets-from.ensures (c.meets-met.ensures c.if-met.false)
