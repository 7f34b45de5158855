-- `set::Set::union` meets its contract. Assumes nothing.
use mathlib.Core.Path.{refl}
use mathlib.Core.Bool.{◌||◌}
use Rattle.set.specs.Words.{word_of}
use Rattle.word.proofs.Mask.{either_is}
use Rattle.set.proofs.Sets.{joined}
use Rattle.set.proofs.Set.union.Goals as goal

pub returns : goal.returns
returns c =
    let z = c.args in
    joined ◌||◌ refl z.self z.other _ _ (either_is (word_of z.self 0) (word_of z.other 0)) (either_is (word_of z.self 1) (word_of z.other 1))
