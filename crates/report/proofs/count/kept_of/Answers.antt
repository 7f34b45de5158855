-- `report::count::kept_of` meets its contract. Assumes nothing.
use Rattle.std.proofs.Common.{◌≡◌, ◌∙◌, sum_by, rules, tests, arith}
use Rattle.std.proofs.lemmas.Iterator.{YieldsList-from_slice, YieldsList-from_map}
use Rattle.std.proofs.lemmas.Iterator.Consumers.{fits_by_from_yields_list}
use Rattle.report.proofs.Counting.{one, zeros-counted, zeros-most}
use Rattle.report.proofs.count.kept_of.Goals as goal

pub sum-requires-clause-fits : goal.sum-requires-clause-fits
sum-requires-clause-fits c =
    let ranks = c.args.ranks.now in
    fits_by_from_yields_list one ranks c.map.result _
    (YieldsList-from_map _ one (YieldsList-from_slice ranks cc) c.map.ensures.closure (λ x r q k. search (rules, tests)))
    (omega (arith, zeros-counted ranks, zeros-most ranks, c.iter.ensures.bound))

pub returns : goal.returns
returns c =
    let ranks = c.args.ranks.now in
    let counted : c.sum.result ≡ sum_by one ranks = search rules in
    counted ∙ zeros-counted ranks
