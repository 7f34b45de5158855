-- `set::Set::difference` meets its contract. Assumes nothing.
use mathlib.Core.Path.{refl}
use mathlib.Core.Bool.{not, ◌&&◌}
use mir.Val.{Fits}
use mir.Syntax.{w64}
use Rattle.set.specs.Words.{word_of}
use Rattle.word.proofs.Mask.{except-is}
use Rattle.set.proofs.Sets.{joined}
use borrow.Author.Rules.{rules}
use Rattle.set.proofs.Set.difference.Goals as goal

pub returns : goal.returns
returns c =
    let z = c.args in
    let a : Fits w64 (word_of z.self 0) = search rules in
    let b : Fits w64 (word_of z.other 0) = search rules in
    let d : Fits w64 (word_of z.self 1) = search rules in
    let e : Fits w64 (word_of z.other 1) = search rules in
    joined (λ x y. x && not y) refl z.self z.other _ _ (except-is (word_of z.self 0) (word_of z.other 0) a.fits b.fits) (except-is (word_of z.self 1) (word_of z.other 1) d.fits e.fits)
