-- `fit::ranked::fits` meets its contract. Assumes nothing.
use mathlib.Core.Path.{sym, ◌∙◌}
use borrow.Author.Tests.{ne_eqb}
use Rattle.fit.proofs.Codes.{other-code}
use Rattle.fit.proofs.Comparing.{cut_fits}
use Rattle.fit.proofs.ranked.fits.Goals as goal

pub returns-then-code : goal.returns-then-code
returns-then-code c = c.is_empty.ensures ∙ cut_fits _ _ _ (sym c.code.ensures ∙ c.if-code.true ∙ c.code-2.ensures) c.round_cut.ensures

pub returns-else-code : goal.returns-else-code
returns-else-code c = ne_eqb _ _ c.if-code.false ∙ other-code _ _ _ (λ e. c.if-code.false (c.code.ensures ∙ e ∙ sym c.code-2.ensures))
