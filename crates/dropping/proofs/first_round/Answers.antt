-- `dropping::first_round` meets its contract: the rows before s are judged. Assumes nothing.
use mathlib.Core.Path.{refl, sym, ◌∙◌, subst}
use mathlib.Core.Bool.{true≢false}
use Prim.Native.Nat.{◌+◌, ◌<◌, zero-le}
use native.Mathlib.Omega.{arith}
use borrow.Author.Tests.{le-leb, lt-leb}
use lib.Dec.{leb}
use Rattle.simulation.specs.Limits.{most_states}
use Rattle.simulation.specs.Table.{states_of}
use Rattle.simulation.specs.Round.{round}
use Rattle.set.specs.Words.{mask}
use Rattle.form.specs.Tables.{first_form, first_table, contract_table}
use Rattle.form.proofs.FormLaws.{limits, sound}
use Rattle.form.proofs.Contract.{contract_sound}
use Rattle.links.proofs.Doubting.{same_refl, same_marks_refl, same_marks_more}
use Rattle.dropping.proofs.Dropping.{Finding, finding_start, finding_next, finding_end}
use Rattle.dropping.proofs.First.{first-falls, from_next}
use Rattle.dropping.proofs.first_round.Goals as goal
use Rattle.dropping.proofs.first_round.Goals.{In-loop-s}

pub loop-s-init : goal.loop-s-init
loop-s-init c = (
  finding_start c.empty-fell.ensures c.requires.1 (λ s t a m. absurd (true≢false (sym (le-leb 0 s zero-le) ∙ m))),
  same_marks_refl,
)

pub lacking_one-row-requires : goal.lacking_one-row-requires
lacking_one-row-requires c = (c.requires.0, omega (arith, c.states-p.ensures))

-- the row is one of few
few : (c : In-loop-s) → c.loop-s.s < most_states
few c = omega (arith, c.states-p.ensures, (limits (first_form c.args.tables.now) c.requires.0.first).states-few)

pub put-requires : goal.put-requires
put-requires c = omega (arith, few (goal.at.put-requires c).In-loop-s)

pub with_row-fell-requires : goal.with_row-fell-requires
with_row-fell-requires c = few (goal.at.with_row-fell-requires c).In-loop-s

pub loop-s-preserved : goal.loop-s-preserved
loop-s-preserved c =
    let tables = c.args.tables.now in
    let r = c.lacking_one-row in
    let s = c.loop-s.s in
    let a : s < states_of (first_table tables) = omega (arith, c.states-p.ensures) in (
      subst (λ l. Finding (first_table tables) (contract_table tables) (round (first_table tables) (contract_table tables) 0) (leb (s + 1)) l (mask c.with_row-fell.result))
          (sym c.put.ensures)
          (finding_next r.result c.with_row-fell.result a (omega (arith, few (goal.at.loop-s-preserved c).In-loop-s)) (from_next s)
          (r.ensures ∙ first-falls (first_table tables) (contract_table tables) (sound (first_form tables) c.requires.0.first) (contract_sound tables c.requires.0) s a)
          c.with_row-fell.ensures c.loop-s.invariant.0),
      same_marks_more c.loop-s.invariant.1 (record { doubt = same_refl; lost = record { name = refl; size = omega arith } }),
    )

pub returns : goal.returns
returns c = (finding_end (λ s a. lt-leb c.loop-s.s s (omega (arith, c.states-p.ensures))) c.loop-s.invariant.0, c.loop-s.invariant.1)
