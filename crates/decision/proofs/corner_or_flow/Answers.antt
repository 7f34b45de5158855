-- `decision::corner_or_flow` meets its contract: what the corner rule shows of the targets and weights holds of the transitions. Assumes nothing.
use mathlib.Core.Path.{sym, ◌∙◌}
use Rattle.decision.proofs.Fitting.{first_rows, second_states, by_sides}
use Rattle.decision.proofs.corner_or_flow.Goals as goal

pub corner-requires : goal.corner-requires
corner-requires c = (first_rows c.requires c.distribution-m.ensures.targets, second_states c.requires c.distribution-n.ensures.targets)

pub returns-then-corner : goal.returns-then-corner
returns-then-corner c =
    let m = c.distribution-m.ensures in
    let n = c.distribution-n.ensures in
    c.if-corner.true ∙ by_sides c.requires m.targets m.weights n.targets n.weights (sym (c.corner.ensures c.if-corner.true))
