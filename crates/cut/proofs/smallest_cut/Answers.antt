-- `cut::smallest_cut` meets its contract. Assumes nothing.
use Rattle.set.proofs.Sets.{mask_lt, is_none}
use Rattle.cut.proofs.QuickLaws.{cut_settled, cut-heavier}
use Rattle.cut.proofs.smallest_cut.Goals as goal

pub returns-then-is_cut : goal.returns-then-is_cut
returns-then-is_cut c =
    let h = c.requires in
    cut_settled h.1 h.2 (mask_lt c.short_rows-s.result.rows) c.short_rows-s.ensures (c.is_cut.ensures c.if-is_cut.true)

pub returns-then-is_empty : goal.returns-then-is_empty
returns-then-is_empty c =
    let h = c.requires in
    cut-heavier _ _ _ h.1 (mask_lt c.short_rows-s.result.rows) c.short_rows-s.ensures c.intersection.ensures
    (is_none c.is_empty.ensures c.if-is_empty.true) c.by_weight.ensures

pub returns : goal.returns
returns c = let a = c.maximum_flow.ensures.0 in record { fit = a.fit; smallest = a.smallest; no_others = a.no_others }
