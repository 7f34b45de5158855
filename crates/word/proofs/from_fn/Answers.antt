-- `word::from_fn` meets its contract: the numbers passed are tested. Assumes nothing.
use mathlib.Core.Path.{ap, ◌∙◌}
use mir.Val.{bool_byte}
use Rattle.word.proofs.Mask.{part-start, part-bit, flag_is}
use Rattle.word.proofs.from_fn.Goals as goal

pub loop-i-init : goal.loop-i-init
loop-i-init g c = λ X told. part-start X

pub loop-i-preserved : goal.loop-i-preserved
loop-i-preserved g c =
    let i = c.loop-i.i in
    λ X told. part-bit X i c.loop-i.set c.with_bit-set.result (bool_byte c.test.result) (c.loop-i.invariant X told)
    (ap bool_byte (told i c.test.result c.loop-i-test.true c.test.ensures) ∙ flag_is (X i)) c.with_bit-set.ensures
