-- `form::Form::lists` meets its contract. Assumes nothing.
use mathlib.Core.Path.{◌∙◌, ap}
use mathlib.Core.List.{List}
use Prim.Native.Nat.{ℕ}
use Rattle.std.proofs.lemmas.List.Sorted.{searched}
use Rattle.simulation.specs.Complete.{lists}
use Rattle.form.proofs.Contract.{listed_ascend, lists-searched}
use Rattle.form.proofs.Known.{loaded}
use Rattle.form.proofs.form.Form.lists.Goals as goal

pub returns : goal.returns
returns c =
    let a = c.args in
    let f = a.self.now in
    let codes = c.codes.result.now in
    let r = c.binary_search.result in
    c.is_ok.ensures.value
    ∙ lists-searched codes a.code r (searched codes a.code r c.binary_search.ensures.position (rw c.codes.ensures (listed_ascend f.numbers.now (loaded f))))
    ∙ ap (λ (l : List ℕ). lists l a.code) c.codes.ensures
