-- `report::count::rounds_of` meets its contract. Assumes nothing.
use Rattle.std.proofs.Common.{◌≡◌, sym, ap, ◌∙◌, unwrap_or, max}
use Rattle.std.specs.List.{reduce}
use Rattle.std.proofs.lemmas.Iterator.{YieldsList-from_slice}
use Rattle.std.proofs.lemmas.Iterator.Adapters.{option_map_id}
use Rattle.std.proofs.lemmas.Iterator.Consumers.{YieldsList-from_copied, max_from_yields_List}
use Rattle.report.proofs.Counting.{largest}
use Rattle.report.proofs.count.rounds_of.Goals as goal

pub returns : goal.returns
returns c =
    let ranks = c.args.ranks.now in
    let most : c.max.result ≡ reduce max ranks = sym (option_map_id _) ∙ max_from_yields_List c.copied.result _ c.max.ensures.ran (YieldsList-from_copied (YieldsList-from_slice ranks cc)) in
    c.unwrap_or.ensures ∙ ap (λ o. unwrap_or o 0) most ∙ largest ranks
