-- Where an answer goes: nowhere in a short buffer, else over its first eight numbers.
-- Assumes nothing.
use mathlib.Core.Path.{◌≡◌, ap}
use mathlib.Core.Bool.{Bool, cond}
use mathlib.Core.List.{List}
use Prim.Native.Nat.{ℕ, ◌≤◌, ◌<◌}
use lib.ListN.{length}
use borrow.Author.Tests.{lt-ltb, le-ltb}
use Rattle.answer.specs.declared.answer.Answer.{Answer}
use Rattle.answer.specs.Numbers.{with_answer, answer_into}

module _ (a : Answer) (old : List ℕ) where
  pub into_short : length old < 8 → answer_into a old ≡ old
  into_short h = ap (λ (c : Bool). cond c old (with_answer a old)) (lt-ltb _ _ h)

  pub into_long : 8 ≤ length old → answer_into a old ≡ with_answer a old
  into_long h = ap (λ (c : Bool). cond c old (with_answer a old)) (le-ltb _ _ h)
