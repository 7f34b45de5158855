-- `set::Set::single` meets its contract. Assumes nothing.
use mathlib.Core.Path.{◌∙◌, ap, fun_ext}
use mathlib.Core.Bool.{◌||◌, or-false}
use Prim.Native.Nat.{ℕ}
use lib.Dec.{eqb}
use Rattle.word.specs.Mask.{member}
use Rattle.word.proofs.Mask.{member-none}
use Rattle.set.proofs.Set.single.Goals as goal

pub returns : goal.returns
returns c =
    let t = c.args.t in
    c.insert.ensures ∙ fun_ext (λ k. ap (λ b. eqb k t || b) (ap (λ (n : ℕ). member n k) c.empty.ensures ∙ member-none k) ∙ or-false (eqb k t))
