-- `set::Set::is_empty` meets its contract. Assumes nothing.
use mir.Val.{Fits}
use mir.Syntax.{w64}
use Rattle.set.specs.Words.{word_of}
use Rattle.set.proofs.Sets.{words-empty}
use borrow.Author.Rules.{rules}
use Rattle.set.proofs.Set.is_empty.Goals as goal

pub returns : goal.returns
returns c =
    let s = c.args.self in
    let a : Fits w64 (word_of s 0) = search rules in
    let b : Fits w64 (word_of s 1) = search rules in
    words-empty s a.fits b.fits
