-- `set::Set::from_fn` meets its contract: the words passed are filled. Assumes nothing.
use mathlib.Core.Path.{ap, ◌∙◌}
use mathlib.Core.Bool.{◌&&◌}
use Prim.Native.Nat.{◌+◌}
use native.Mathlib.Omega.{arith}
use borrow.Author.Rules.{rules}
use borrow.Author.Tests.{le-ltb}
use Rattle.word.specs.Mask.{part}
use Rattle.set.proofs.Sets.{by_start, by_next, by_all, word_part}
use Rattle.set.proofs.Set.from_fn.Goals as goal

pub loop-w-init : goal.loop-w-init
loop-w-init g c = λ X told. by_start (part c.args.n X) (search rules)

pub loop-w-preserved : goal.loop-w-preserved
loop-w-preserved g c =
    let n = c.args.n in
    let w = c.loop-w.w in
    let start = c.start-start.result in
    λ X told. by_next (part n X) w c.from_fn.result c.loop-w-test.true (c.loop-w.invariant X told)
    (c.from_fn.ensures (λ u. X (start + u)) (λ u b lt e. told (start + u) b (omega (arith, c.start-start.ensures, c.start-end.ensures)) (search rules))
    ∙ word_part X n w c.start-start.ensures c.start-end.ensures)

pub returns : goal.returns
returns g c = λ X told. by_all (part c.args.n X) c.loop-w.set (omega arith) (λ t out. ap (λ b. b && X t) (le-ltb t c.args.n (omega (arith, c.requires.room)))) (c.loop-w.invariant X told)
