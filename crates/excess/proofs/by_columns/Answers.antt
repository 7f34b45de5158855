-- `excess::by_columns` meets its contract: the sums by rows decide the question turned round. Assumes nothing.
use mathlib.Core.Path.{◌∙◌}
use native.Mathlib.Omega.{arith}
use borrow.Author.Rules.{rules}
use lib.ListN.{length}
use Rattle.matrix.specs.Problem.{joins}
use Rattle.excess.proofs.Sets.{few_members}
use Rattle.excess.proofs.Hall.{fits_turned}
use Rattle.excess.proofs.by_columns.Goals as goal

pub by_sets-requires-clause-small : goal.by_sets-requires-clause-small
by_sets-requires-clause-small c = λ i a lt e.
    let x = c.args in
    few_members (length x.n.targets.now) (joins x.rows.now x.m.targets.now x.n.targets.now i) a (omega arith) (search rules)

pub returns : goal.returns
returns c =
    let x = c.args in
    let R = joins x.rows.now x.m.targets.now x.n.targets.now in
    c.by_sets.ensures (λ j i. R i j) (λ i a lt e. search rules) ∙ fits_turned R x.m.weights.now x.n.weights.now
