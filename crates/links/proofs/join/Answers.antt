-- `links::join` meets its contract: the row of t has s too, and no other row changes. Assumes nothing.
use mathlib.Core.Path.{◌≡◌, sym, ap, ◌∙◌, subst}
use mathlib.Core.Bool.{true}
use mathlib.Core.List.{List}
use Prim.Native.Nat.{ℕ}
use Rattle.word.specs.Mask.{with_member, member}
use Rattle.set.specs.Words.{mask}
use Rattle.relation.specs.Rows.{row_of}
use Rattle.relation.specs.Related.{holds}
use Rattle.links.specs.Links.{Joins}
use Rattle.links.proofs.Growing.{with_new, joins_set, set_here}
use Rattle.links.proofs.join.Goals as goal

pub returns : goal.returns
returns c =
    let a = c.args in
    let rows = a.before.now in
    let x = c.insert in
    let row = x.ensures ∙ ap (λ (n : ℕ). with_member a.s (member n)) c.get.ensures in (
      subst (Joins a.s rows) (sym c.put.ensures) (joins_set rows a.s a.t x.result c.requires.0 row),
      subst (λ (l : List ℕ). holds l a.t a.s ≡ true) (sym c.put.ensures)
          (set_here rows a.t x.result a.s c.requires.0 (with_new (row_of rows a.t) (mask x.result) a.s row)),
    )
