-- `bounds::Bounds::settle` meets its contract: a member of a difference is the witness. Assumes nothing.
use Rattle.set.specs.Words.{mask}
use Rattle.set.proofs.Sets.{mask_lt, is_none, is_some}
use Rattle.bounds.proofs.Covering.{outside-member, covered}
use Rattle.bounds.proofs.Bounds.settle.Goals as goal

pub returns-then-is_empty : goal.returns-then-is_empty
returns-then-is_empty c =
    let a = c.args in
    let d = c.difference in
    covered (mask a.to) (mask a.self.every) (mask d.result) (is_none c.is_empty.ensures c.if-is_empty.true) d.ensures

pub returns-then-not-is_empty : goal.returns-then-not-is_empty
returns-then-not-is_empty c =
    let a = c.args in
    let d = c.difference-2 in
    outside-member (mask a.to) (mask a.self.some) (mask d.result) (mask_lt d.result) (is_some c.is_empty-2.ensures c.if-not-is_empty.true) d.ensures
