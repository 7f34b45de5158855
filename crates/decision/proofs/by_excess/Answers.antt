-- `decision::by_excess` meets its contract: what is decided of the targets and weights holds of the transitions. Assumes nothing.
use native.Mathlib.Omega.{arith}
use Rattle.decision.proofs.Fitting.{first_rows, second_states, by_sides}
use Rattle.decision.proofs.by_excess.Goals as goal

pub by_rows-requires : goal.by_rows-requires
by_rows-requires c =
    let q = c.requires in
    (first_rows q c.distribution-m.ensures.targets, second_states q c.distribution-n.ensures.targets, omega (arith, c.distribution-m.result.paired))

pub returns-then-m-le-FEW : goal.returns-then-m-le-FEW
returns-then-m-le-FEW c =
    let m = c.distribution-m.ensures in
    let n = c.distribution-n.ensures in
    by_sides c.requires m.targets m.weights n.targets n.weights c.by_rows.ensures

pub by_columns-requires : goal.by_columns-requires
by_columns-requires c =
    let q = c.requires in
    (first_rows q c.distribution-m.ensures.targets, second_states q c.distribution-n.ensures.targets, omega (arith, c.distribution-n.result.paired))

pub returns-then-n-le-FEW : goal.returns-then-n-le-FEW
returns-then-n-le-FEW c =
    let m = c.distribution-m.ensures in
    let n = c.distribution-n.ensures in
    by_sides c.requires m.targets m.weights n.targets n.weights c.by_columns.ensures
