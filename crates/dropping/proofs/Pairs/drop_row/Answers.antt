-- `dropping::Pairs::drop_row` meets its contract: those are left that answer each of the transitions passed. Assumes nothing.
use mathlib.Core.Path.{◌≡◌, sym, subst}
use Prim.Native.Nat.{ℕ, ◌+◌}
use native.Mathlib.Omega.{arith}
use Rattle.word.specs.Mask.{member}
use Rattle.set.specs.Words.{mask}
use Rattle.relation.specs.Rows.{row_of}
use Rattle.set.proofs.Sets.{both_of}
use Rattle.form.specs.Form.{start_of}
use Rattle.form.specs.Tables.{first_form, contract_table}
use Rattle.form.proofs.FormLaws.{limits, counts, start-bound}
use Rattle.fit.proofs.Trying.{lent_again}
use Rattle.dropping.proofs.Keeping.{Answering, kept-start, kept_next, kept-columns, kept-end}
use Rattle.dropping.proofs.Pairs.drop_row.Goals as goal

pub get-requires : goal.get-requires
get-requires c =
    omega (arith, c.requires.0.rows_room, c.requires.2, (limits (first_form c.args.self.now.tables.now) c.requires.0.loaded.first).states-few)

pub overflow_add-s : goal.overflow_add-s
overflow_add-s c =
    omega (arith, c.requires.2, (limits (first_form c.args.self.now.tables.now) c.requires.0.loaded.first).states-few)

pub loop-j-init : goal.loop-j-init
loop-j-init c =
    let a = c.args in
    let near = mask c.intersection-near.result in
    (c.requires.1, subst (λ (n : ℕ). Answering a.self.now.tables.now a.self.now.rows.now a.s near n near) (sym c.start_of-start.ensures) (kept-start _ near _))

pub drop_step-fallen-requires : goal.drop_step-fallen-requires
drop_step-fallen-requires c =
    let a = c.args in
    let e = both_of c.get.ensures (member (mask a.doubt)) c.intersection-near.ensures in (
      lent_again c.requires.0 (omega arith),
      c.loop-j.invariant.0,
      omega (arith, c.start_of-end.ensures, start-bound (first_form a.self.now.tables.now) c.requires.0.loaded.first (a.s + 1) (omega (arith, c.requires.2))),
      kept-columns (contract_table a.self.now.tables.now) (row_of a.self.now.rows.now a.s) (mask a.doubt) c.requires.4 e c.loop-j.invariant.1,
    )

pub loop-j-preserved : goal.loop-j-preserved
loop-j-preserved c = (
  c.drop_step-fallen.ensures.1,
  kept_next (mask c.drop_step-fallen.result) (omega (arith, c.start_of-start.ensures)) c.drop_step-fallen.ensures.0 c.difference-left.ensures c.loop-j.invariant.1,
)

pub returns : goal.returns
returns c =
    let a = c.args in
    let tables = a.self.now.tables.now in
    let e = both_of c.get.ensures (member (mask a.doubt)) c.intersection-near.ensures in
    let last : c.loop-j.j ≡ start_of (first_form tables) (a.s + 1) =
    let steps = counts (first_form tables) c.requires.0.loaded.first a.s c.requires.2 in
    omega (arith, c.start_of-end.ensures, c.loop-j.auto.j-end (omega (arith, c.start_of-start.ensures, c.start_of-end.ensures, steps))) in (
      kept-end tables a.self.now.rows.now c.requires.0.loaded.first a.s c.requires.2 (mask a.doubt) (mask c.difference.result) c.requires.4 c.requires.3 e
          (subst (λ (n : ℕ). Answering tables a.self.now.rows.now a.s (mask c.intersection-near.result) n (mask c.loop-j.left)) last c.loop-j.invariant.1)
          c.difference.ensures,
      c.loop-j.invariant.0,
    )
