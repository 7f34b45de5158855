-- `excess::without` meets its contract. Assumes nothing.
use mathlib.Core.Path.{◌≡◌, sym, ap, ◌∙◌}
use mathlib.Core.Bool.{true}
use Prim.Native.Nat.{ℕ, ◌-◌, ◌^◌}
use native.Mathlib.Omega.{arith}
use borrow.Author.Tests.{eq-eqb, ne_eqb}
use lib.ListN.{get_or}
use Rattle.simulation.specs.Sum.{when}
use Rattle.word.specs.Mask.{member}
use Rattle.word.proofs.Mask.{member_shift, power_is}
use Rattle.excess.proofs.without.Goals as goal
use Rattle.excess.proofs.without.Goals.{Then-set-i-eq1}

in_set : (c : Then-set-i-eq1) → member c.args.set c.args.i ≡ true
in_set c = let a = c.args in sym (member_shift a.set a.i) ∙ eq-eqb _ 1 c.if-set-i-eq1.true

pub returns-then-set-i-eq1 : goal.returns-then-set-i-eq1
returns-then-set-i-eq1 c =
    let a = c.args in
    ap (λ (n : ℕ). get_or a.sums.now (a.set - n) 0) (power_is a.i (omega arith)) ∙ ap (λ b. when b (get_or a.sums.now (a.set - 2 ^ a.i) 0)) (sym (in_set (goal.at.returns-then-set-i-eq1 c).Then-set-i-eq1))

pub returns : goal.returns
returns c =
    let a = c.args in
    ap (λ b. when b (get_or a.sums.now (a.set - 2 ^ a.i) 0)) (sym (sym (member_shift a.set a.i) ∙ ne_eqb _ 1 c.if-set-i-eq1.false))
