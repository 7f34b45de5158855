-- `excess::by_rows` meets its contract: the sums by columns decide. Assumes nothing.
use native.Mathlib.Omega.{arith}
use borrow.Author.Rules.{rules}
use lib.ListN.{length}
use Rattle.matrix.specs.Problem.{joins}
use Rattle.excess.proofs.Sets.{few_members}
use Rattle.excess.proofs.by_rows.Goals as goal

pub by_sets-requires-clause-small : goal.by_sets-requires-clause-small
by_sets-requires-clause-small c = λ j a lt e.
    let x = c.args in
    few_members (length x.m.targets.now) (λ i. joins x.rows.now x.m.targets.now x.n.targets.now i j) a (omega arith) (search rules)
