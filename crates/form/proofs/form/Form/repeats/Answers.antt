-- `form::Form::repeats` meets its contract.
-- Assumes nothing.
use mathlib.Core.Path.{◌≡◌, sym, ap, ◌∙◌}
use mathlib.Core.Bool.{true≢false}
use Prim.Native.Nat.{ℕ, pred, ◌-◌}
use native.Mathlib.Omega.{arith}
use borrow.Author.Tests.{eqb-true}
use Rattle.form.specs.Form.{transition_at}
use Rattle.form.proofs.form.Form.repeats.Goals as goal

pub returns-then-j-from : goal.returns-then-j-from
returns-then-j-from c e = absurd (true≢false (sym e))

pub returns : goal.returns
returns c e =
    let a = c.args in
    let back : a.j - 1 ≡ pred a.j = omega arith in (
      omega (arith, c.if-j-from.false),
      sym c.code.ensures ∙ eqb-true c.code.result c.code-2.result e ∙ c.code-2.ensures
          ∙ ap (λ (k : ℕ). (transition_at a.self.now.numbers.now k).code) back,
    )
