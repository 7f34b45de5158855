-- `word::from_fn` meets its contract: the numbers passed are tested. Assumes nothing.
use mathlib.Core.Path.{◌≡◌}
use mathlib.Core.Bool.{Bool}
use Prim.Native.Nat.{ℕ, ◌<◌}
use Rattle.word.specs.Mask.{Test, member, part}
use Rattle.word.proofs.from_fn.Given as goal

abbrev pub invariant-loop-i : goal.invariant-loop-i
invariant-loop-i g l = (X : Test) → ((i : ℕ) (b : Bool) → i < l.n → goal.F-post g l.test i b → b ≡ X i) → member l.set ≡ part l.i X
