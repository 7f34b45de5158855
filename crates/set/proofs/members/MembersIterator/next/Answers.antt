-- `Members::next` meets its contract: a word that isn't 0 has a member, and none is left where both are 0. Assumes nothing.
use mir.Val.{Fits}
use mir.Syntax.{w64}
use native.Mathlib.Omega.{arith}
use borrow.Author.Rules.{rules}
use Rattle.set.specs.Words.{word_of}
use Rattle.set.proofs.Sets.{some_word, zero-words}
use Rattle.set.proofs.members.MembersIterator.next.Goals as goal

pub returns-clause-steps : goal.returns-clause-steps
returns-clause-steps c = let none = zero-words c.args.self.now.left c.if-self-ne0.false c.if-self-ne0-2.false in (none, none)

pub take-requires : goal.take-requires
take-requires c =
    let s = c.args.self.now.left in
    let f : Fits w64 (word_of s 0) = search rules in
    some_word s 0 (omega arith) f.fits c.if-self-ne0.true

pub take-requires-then-self-ne0-2 : goal.take-requires-then-self-ne0-2
take-requires-then-self-ne0-2 c =
    let s = c.args.self.now.left in
    let f : Fits w64 (word_of s 1) = search rules in
    some_word s 1 (omega arith) f.fits c.if-self-ne0-2.true
