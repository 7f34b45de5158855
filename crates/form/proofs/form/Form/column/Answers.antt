-- `form::Form::column` meets its contract. Assumes nothing.
use mathlib.Core.Path.{ap₂, ◌∙◌}
use Prim.Native.Nat.{ℕ, ◌+◌, ◌-◌}
use native.Mathlib.Omega.{arith}
use lib.ListN.{take, drop}
use Rattle.form.specs.Form.{entry_start}
use Rattle.form.proofs.FormLaws.{column-part}
use Rattle.form.proofs.form.Form.column.Goals as goal

pub slice_bounds-result-count : goal.slice_bounds-result-count
unfolding entry_start
slice_bounds-result-count c = omega (arith, c.requires.ordered, c.number-start.ensures, c.number-end.ensures)

pub slice_bounds-result-start : goal.slice_bounds-result-start
unfolding entry_start
slice_bounds-result-start c = omega (arith, c.requires.ordered, c.number-start.ensures, c.number-end.ensures)

pub slice_bounds-result-end : goal.slice_bounds-result-end
unfolding entry_start
slice_bounds-result-end c = omega (arith, c.requires.within, c.number-start.ensures, c.number-end.ensures)

pub returns : goal.returns
unfolding entry_start
returns c =
    let a = c.args in
    let f = a.self.now.numbers.now in
    ap₂ (λ (i k : ℕ). take (a.column + k - (a.column + i)) (drop (a.column + i) f)) c.number-start.ensures c.number-end.ensures
    ∙ column-part f a.column a.j c.requires
