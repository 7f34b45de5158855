-- `set::Set::count` meets its contract. Assumes nothing.
use mathlib.Core.Path.{◌∙◌, ap₂}
use Prim.Native.Nat.{◌+◌}
use native.Mathlib.Omega.{arith}
use Rattle.simulation.proofs.Finite.Sums.{members_most}
use Rattle.word.specs.Mask.{member, word_bits}
use Rattle.set.specs.Words.{word_of}
use Rattle.set.proofs.Sets.{count-is}
use Rattle.set.proofs.Set.count.Goals as goal

pub overflow_add-result : goal.overflow_add-result
overflow_add-result c =
    let s = c.args.self in
    omega (arith, c.count.ensures, c.count-2.ensures, members_most word_bits (member (word_of s 0)), members_most word_bits (member (word_of s 1)))

pub returns : goal.returns
returns c = ap₂ ◌+◌ c.count.ensures c.count-2.ensures ∙ count-is c.args.self
