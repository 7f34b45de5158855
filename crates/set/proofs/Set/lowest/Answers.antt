-- `set::Set::lowest` meets its contract. Assumes nothing.
use mathlib.Core.Path.{◌≡◌, ◌∙◌, ap, subst}
use Prim.Native.Nat.{ℕ, ◌+◌, ◌*◌}
use native.Mathlib.Nat.{not-suc-le-zero}
use native.Mathlib.Omega.{arith}
use Rattle.word.specs.Mask.{member, Lowest, word_bits}
use Rattle.set.specs.Words.{mask, word_of}
use Rattle.set.proofs.Sets.{lowest_is, high_word}
use Rattle.set.proofs.Words.{equation}
use Rattle.set.proofs.Set.lowest.Goals as goal

pub returns-then-low-ne0 : goal.returns-then-low-ne0
returns-then-low-ne0 c =
    let s = c.args.self in
    let r = c.lowest.result in
    let e : 0 * word_bits + r ≡ r = omega arith in
    (omega (arith, c.lowest.ensures.0), subst (λ (n : ℕ). Lowest (member (mask s)) n) e (lowest_is s 0 r (omega arith) c.lowest.ensures.0 (λ j lt. absurd (not-suc-le-zero lt)) c.lowest.ensures.1))

pub lowest-requires-2 : goal.lowest-requires-2
lowest-requires-2 c = high_word c.args.self c.requires c.if-low-ne0.false

pub returns : goal.returns
returns c =
    let s = c.args.self in
    let r = c.lowest-2.result in
    (omega (arith, c.lowest-2.ensures.0), lowest_is s 1 r (omega arith) c.lowest-2.ensures.0 (λ j lt. ap (word_of s) (equation j 0 (omega arith)) ∙ c.if-low-ne0.false) c.lowest-2.ensures.1)
