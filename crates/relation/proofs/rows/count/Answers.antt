-- `relation::rows::count` meets its contract: the counts of the rows, summed. Assumes nothing.
use mathlib.Core.Path.{◌∙◌}
use Prim.Native.Nat.{ℕ}
use native.Mathlib.Omega.{arith}
use borrow.Author.Rules.{rules}
use Rattle.std.proofs.lemmas.Iterator.{YieldsList-from_map, YieldsList-from_range}
use Rattle.std.proofs.lemmas.Iterator.Consumers.{sum_from_yields_List, fits_from_yields_list}
use Rattle.simulation.specs.Limits.{most_states}
use Rattle.word.specs.Mask.{size}
use Rattle.relation.specs.Related.{holds}
use Rattle.relation.proofs.Relations.{sum-range, pairs-most}
use Rattle.relation.proofs.rows.count.Goals as goal
use Rattle.relation.proofs.rows.count.Goals.{After-map}

abbrev row_size : After-map → ℕ → ℕ
row_size c s = size most_states (holds c.args.rows.now s)

pub sum-requires-clause-fits : goal.sum-requires-clause-fits
sum-requires-clause-fits c =
    fits_from_yields_list c.map.result _
    (YieldsList-from_map _ (row_size c) (YieldsList-from_range 0 c.args.n c.args.n c.map.ensures.source (omega arith)) c.map.ensures.closure (λ x r q k. search rules))
    (omega (arith, sum-range (row_size c) c.args.n, pairs-most (holds c.args.rows.now) c.args.n, c.requires))

pub returns : goal.returns
returns c =
    sum_from_yields_List c.map.result c.sum.result c.sum.ensures.ran
    (YieldsList-from_map _ (row_size (goal.at.returns c).After-map) (YieldsList-from_range 0 c.args.n c.args.n c.map.ensures.source (omega arith)) c.map.ensures.closure (λ x r q k. search rules))
    ∙ sum-range (row_size (goal.at.returns c).After-map) c.args.n
