-- `links::behind_all` meets its contract: the members passed have their rows in r. Assumes nothing.
use mathlib.Core.Path.{◌≡◌}
use mathlib.Core.Bool.{true}
use mathlib.Core.List.{List}
use Prim.Native.Nat.{ℕ}
use Rattle.word.specs.Mask.{member}
use Rattle.set.specs.Words.{mask}
use Rattle.relation.specs.Related.{holds}
use Rattle.links.proofs.Walks.{EachPassed}
use Rattle.links.proofs.behind_all.Given as goal

-- the row of u lies in the set r
abbrev pub Taken : (rows : List ℕ) (r u : ℕ) → Type 0
Taken rows r u = (t : ℕ) → holds rows u t ≡ true → member r t ≡ true

abbrev pub invariant-loop-u : goal.invariant-loop-u
invariant-loop-u l = EachPassed l.fn.set (mask l.u-iterator.left) (Taken l.sets.behind.now (mask l.r))
