-- `gather::gather_row` meets its contract: of targets that are all states in order the row itself is the answer. Assumes nothing.
use mathlib.Core.Path.{refl, sym, ap, ◌∙◌}
use Prim.Native.Nat.{ℕ, ◌-◌}
use native.Mathlib.Omega.{arith}
use lib.ListN.{length}
use Rattle.word.specs.Mask.{member, part, both}
use Rattle.set.specs.Words.{mask}
use Rattle.relation.specs.Rows.{row_of}
use Rattle.word.proofs.Mask.{part-start}
use Rattle.set.proofs.Sets.{both_of}
use Rattle.gather.specs.Places.{row_at}
use Rattle.gather.proofs.Gathering.{dense_row}
use Rattle.gather.proofs.gather_row.Goals as goal

pub returns-then-n-eq0 : goal.returns-then-n-eq0
returns-then-n-eq0 c =
    let a = c.args in
    let X = row_at (row_of a.rows.now a.s) a.to.now in
    ap member c.empty.ensures ∙ part-start X ∙ ap (λ (n : ℕ). part n X) (sym c.if-n-eq0.true)

pub overflow_cast-to : goal.overflow_cast-to
overflow_cast-to c = omega (arith, c.type_inv.to (length c.args.to.now - 1))

pub overflow_add-to : goal.overflow_add-to
overflow_add-to c = omega (arith, c.requires.1.below (length c.args.to.now - 1) (omega arith))

pub returns-then-to-n : goal.returns-then-to-n
returns-then-to-n c =
    let a = c.args in
    both_of c.get.ensures (member (mask c.below.result)) c.intersection.ensures
    ∙ ap (both (member (row_of a.rows.now a.s))) c.below.ensures
    ∙ dense_row a.to.now c.requires.2 (row_of a.rows.now a.s) refl (omega arith) (omega arith)
