-- `fit::fits_guess` meets its contract: the codes are compared, then the targets decide. Assumes nothing.
use mathlib.Core.Path.{◌≡◌, sym, ◌∙◌, subst}
use mathlib.Core.Bool.{true≢false}
use Prim.Native.Nat.{◌<◌}
use native.Mathlib.Omega.{arith}
use borrow.Author.Tests.{eqb-true, le-ltb}
use Rattle.form.specs.Form.{transitions_of}
use Rattle.form.specs.Tables.{second_form, first_step, second_step}
use Rattle.bounds.specs.Quick.{SetOf}
use Rattle.fit.proofs.Sets.{set_at}
use Rattle.fit.proofs.Codes.{same_code}
use Rattle.fit.proofs.Trying.{lent_asked}
use Rattle.fit.proofs.fits_guess.Goals as goal
use Rattle.fit.proofs.fits_guess.Goals.{then-l-end, else-l-end}

pub decide-requires : goal.decide-requires
decide-requires c =
    let b : c.args.l < transitions_of (second_form c.args.tables.now) = omega (arith, c.requires.2) in
    (lent_asked c.requires.0 c.args.j c.args.l c.requires.1 b, subst (SetOf _ _) (sym c.get.ensures) (set_at c.requires.0.target_sets c.args.l b))

pub returns-then-code : goal.returns-then-code
returns-then-code c e =
    let a = c.args in
    let same : (first_step a.tables.now a.j).code ≡ (second_step a.tables.now a.l).code = elim c.if-l-end.branch [
      | then-l-end w ↦ sym w.code-then-l-end.ensures ∙ sym (eqb-true _ _ (sym w.value-is ∙ c.if-code.true)) ∙ w.code.ensures
      | else-l-end w ↦ absurd (true≢false (sym c.if-code.true ∙ w.value-is ∙ le-ltb c.args.l c.args.end w.if-l-end.false))
    ] in
    (omega arith, sym (same_code _ _ _ same c.decide.ensures) ∙ e)
