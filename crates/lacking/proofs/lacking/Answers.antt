-- `lacking::lacking` meets its contract: each state is asked. Assumes nothing.
use mathlib.Core.Path.{ap, ◌∙◌}
use mathlib.Core.Bool.{not}
use Prim.Native.Nat.{ℕ}
use borrow.Author.Rules.{rules}
use Rattle.simulation.specs.Table.{steps}
use Rattle.word.specs.Mask.{part}
use Rattle.form.specs.Tables.{second_table}
use Rattle.fit.specs.Held.{coded}
use Rattle.lacking.proofs.lacking.Goals as goal

pub returns : goal.returns
returns c =
    let a = c.args in
    let lacked = λ (t : ℕ). not (coded a.code (steps (second_table a.tables.now) t)) in
    c.from_fn.ensures lacked (λ t b lt e. search rules) ∙ ap (λ (n : ℕ). part n lacked) c.states-states.ensures
