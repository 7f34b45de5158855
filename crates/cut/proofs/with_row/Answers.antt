-- `cut::with_row` meets its contract. Assumes nothing.
use Rattle.word.specs.Mask.{member}
use Rattle.set.specs.Words.{mask}
use Rattle.set.proofs.Sets.{mask_lt, both_by, except_by, is_none, is_some}
use Rattle.cut.proofs.QuickLaws.{lacking_skip, lacking_next}
use Rattle.cut.proofs.with_row.Goals as goal

pub returns-then-is_empty : goal.returns-then-is_empty
returns-then-is_empty c =
    lacking_skip _ _ c.requires.3 c.requires.2 (except_by c.get.ensures (member (mask c.args.all)) c.difference-gap.ensures) (is_none c.is_empty.ensures c.if-is_empty.true)

pub returns : goal.returns
returns c =
    let a = member (mask c.args.all) in
    lacking_next _ _ c.requires.3 c.requires.2 (except_by c.get.ensures a c.difference-gap.ensures) _ _ _ _
    (is_some c.is_empty.ensures c.if-is_empty.false) (mask_lt c.difference-gap.result) (both_by c.get-2.ensures a c.intersection-row.ensures)
    c.insert.ensures c.union.ensures c.union-2.ensures
