-- `form::Form::codes` meets its contract. Assumes nothing.
use mathlib.Core.Path.{◌≡◌, ap, ◌∙◌}
use Prim.Native.Nat.{ℕ, ◌+◌, ◌-◌}
use native.Mathlib.Omega.{arith}
use lib.ListN.{take, drop}
use Rattle.simulation.specs.Sum.{below}
use Rattle.form.specs.Form.{at, listed_from, table_of}
use Rattle.form.proofs.FormLists.{part-below}
use Rattle.form.proofs.Contract.{codes-few}
use Rattle.form.proofs.Known.{loaded}
use Rattle.form.proofs.form.Form.codes.Goals as goal

pub slice_bounds-result-end : goal.slice_bounds-result-end
slice_bounds-result-end c =
    let f = c.args.self.now in
    omega (arith, (loaded f).room, codes-few f.numbers.now (loaded f), c.number-count.ensures)

pub returns : goal.returns
unfolding table_of
returns c =
    let l = loaded c.args.self.now in
    let f = c.args.self.now.numbers.now in
    let n = c.number-count.result in
    let size : listed_from + n - listed_from ≡ n = omega arith in
    ap (λ (k : ℕ). take k (drop listed_from f)) size
    ∙ part-below f listed_from 0 n (omega (arith, l.room, codes-few f l, c.number-count.ensures))
    ∙ ap (λ (k : ℕ). below 0 k (λ i. at f (listed_from + i))) c.number-count.ensures
