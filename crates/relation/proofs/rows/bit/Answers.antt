-- `relation::rows::bit` meets its contract. Assumes nothing.
use mathlib.Core.Path.{◌∙◌, ap}
use native.Mathlib.Omega.{arith}
use Rattle.simulation.specs.Sum.{when}
use Rattle.relation.proofs.RowLaws.{row-bit}
use Rattle.relation.proofs.rows.bit.Goals as goal

pub returns : goal.returns
returns c =
    let a = c.args in
    c.bit.ensures ∙ ap (λ b. when b 1) (row-bit a.rows.now a.s a.t (omega arith))
