-- `set::Set::from_fn` meets its contract: the words passed are filled. Assumes nothing.
use mathlib.Core.Path.{◌≡◌}
use mathlib.Core.Bool.{Bool}
use Prim.Native.Nat.{ℕ, ◌<◌}
use Rattle.word.specs.Mask.{Test, part}
use Rattle.set.proofs.Sets.{FilledBy}
use Rattle.set.proofs.Set.from_fn.Given as goal

abbrev pub invariant-loop-w : goal.invariant-loop-w
invariant-loop-w g l = (X : Test) → ((i : ℕ) (b : Bool) → i < l.n → goal.F-post g l.test i b → b ≡ X i) → FilledBy (part l.n X) l.w l.set.words
