-- `set::Set::intersection` meets its contract. Assumes nothing.
use mathlib.Core.Path.{refl}
use mathlib.Core.Bool.{◌&&◌}
use Rattle.set.specs.Words.{word_of}
use Rattle.word.proofs.Mask.{both_is}
use Rattle.set.proofs.Sets.{joined}
use Rattle.set.proofs.Set.intersection.Goals as goal

pub returns : goal.returns
returns c =
    let z = c.args in
    joined ◌&&◌ refl z.self z.other _ _ (both_is (word_of z.self 0) (word_of z.other 0)) (both_is (word_of z.self 1) (word_of z.other 1))
