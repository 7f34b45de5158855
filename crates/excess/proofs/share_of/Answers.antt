-- `excess::share_of` meets its contract: the amounts of the members, summed. Assumes nothing.
use mathlib.Core.Path.{◌∙◌}
use Prim.Native.Nat.{ℕ}
use native.Mathlib.Omega.{arith}
use borrow.Author.Rules.{rules}
use lib.ListN.{get_or}
use Rattle.std.proofs.lemmas.Iterator.{YieldsList-from_map, YieldsList-from_range}
use Rattle.std.proofs.lemmas.Iterator.Consumers.{sum_from_yields_List, fits_from_yields_list}
use Rattle.simulation.specs.Sum.{when}
use Rattle.simulation.proofs.Finite.Sums.{sum_mono, when-most}
use Rattle.word.specs.Mask.{member}
use Rattle.relation.proofs.Relations.{sum-range}
use Rattle.excess.specs.Excess.{few}
use Rattle.excess.proofs.share_of.Goals as goal
use Rattle.excess.proofs.share_of.Goals.{After-map}

abbrev at_place : After-map → ℕ → ℕ
at_place c i = when (member c.args.set i) (get_or c.args.shares.now i 0)

pub sum-requires-clause-fits : goal.sum-requires-clause-fits
sum-requires-clause-fits c =
    fits_from_yields_list c.map.result _
    (YieldsList-from_map _ (at_place c) (YieldsList-from_range 0 few few c.map.ensures.source (omega arith)) c.map.ensures.closure (λ x r q k. search rules))
    (omega (
      arith,
      sum-range (at_place c) few,
      sum_mono few (at_place c) (λ i. get_or c.args.shares.now i 0) (λ i _. when-most (member c.args.set i) (get_or c.args.shares.now i 0)),
      c.requires,
    ))

pub returns : goal.returns
returns c =
    let made = (goal.at.returns c).After-map in
    sum_from_yields_List c.map.result c.sum.result c.sum.ensures.ran
    (YieldsList-from_map _ (at_place made) (YieldsList-from_range 0 few few c.map.ensures.source (omega arith)) c.map.ensures.closure (λ x r q k. search rules))
    ∙ sum-range (at_place made) few
