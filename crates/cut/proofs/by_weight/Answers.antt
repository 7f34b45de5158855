-- `cut::by_weight` meets its contract. Assumes nothing.
use Rattle.word.specs.Mask.{member}
use Rattle.set.specs.Words.{mask}
use Rattle.cut.proofs.Weighing.{weights-small, heavier-rows, heavier-none}
use Rattle.cut.proofs.by_weight.Goals as goal

pub overflow_mul-weight_of : goal.overflow_mul-weight_of
overflow_mul-weight_of c =
    record { fits = weights-small c.args.n.now c.args.m.now (member (mask c.args.s.has)) c.weight_of.ensures c.total_weight.ensures c.requires.3 c.requires.2 }

pub overflow_mul-weight_of-2 : goal.overflow_mul-weight_of-2
overflow_mul-weight_of-2 c =
    record { fits = weights-small c.args.m.now c.args.n.now (member (mask c.args.s.rows)) c.weight_of-2.ensures c.total_weight-2.ensures c.requires.2 c.requires.3 }

pub returns-then-weight_of-total_weight : goal.returns-then-weight_of-total_weight
returns-then-weight_of-total_weight c =
    heavier-rows _ _ _ _ c.weight_of.ensures c.total_weight.ensures c.weight_of-2.ensures c.total_weight-2.ensures c.if-weight_of-total_weight.true

pub returns : goal.returns
returns c =
    heavier-none _ _ _ _ c.weight_of.ensures c.total_weight.ensures c.weight_of-2.ensures c.total_weight-2.ensures c.if-weight_of-total_weight.false c.empty.ensures
