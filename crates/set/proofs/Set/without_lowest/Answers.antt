-- `set::Set::without_lowest` meets its contract. Assumes nothing.
use mathlib.Core.Path.{◌∙◌, ap}
use mathlib.Core.List.{[], ◌∷◌}
use mir.Val.{Fits}
use mir.Syntax.{w64}
use native.Mathlib.Nat.{not-suc-le-zero}
use native.Mathlib.Omega.{arith}
use Rattle.word.specs.Mask.{word_bits}
use Rattle.set.specs.Words.{word_of}
use Rattle.word.proofs.Mask.{lowest_of}
use Rattle.set.proofs.Sets.{of_words, high_word, lowest_dropped, second-alone, second}
use Rattle.set.proofs.Words.{equation}
use borrow.Author.Rules.{rules}
use Rattle.set.proofs.Set.without_lowest.Goals as goal

pub returns-then-low-ne0 : goal.returns-then-low-ne0
returns-then-low-ne0 c =
    let s = c.args.self in
    let h : Fits w64 (word_of s 0) = search rules in
    let l = lowest_of word_bits (word_of s 0) h.fits (omega arith) in
    lowest_dropped s 0 _ (omega arith) l.0 (λ j lt. absurd (not-suc-le-zero lt)) l.1 (of_words (c.without_lowest.result ∷ word_of s 1 ∷ []))
    (c.without_lowest.ensures.0 _ l.1) (second s c.without_lowest.result)

pub without_lowest-requires-2 : goal.without_lowest-requires-2
without_lowest-requires-2 c = high_word c.args.self c.requires c.if-low-ne0.false

pub returns : goal.returns
returns c =
    let s = c.args.self in
    let h : Fits w64 (word_of s 1) = search rules in
    let z = c.if-low-ne0.false in
    let l = lowest_of word_bits (word_of s 1) h.fits (high_word s c.requires z) in
    lowest_dropped s 1 _ (omega arith) l.0 (λ j lt. ap (word_of s) (equation j 0 (omega arith)) ∙ z) l.1 (of_words (0 ∷ c.without_lowest-2.result ∷ []))
    (c.without_lowest-2.ensures.0 _ l.1) (second-alone s c.without_lowest-2.result z)
