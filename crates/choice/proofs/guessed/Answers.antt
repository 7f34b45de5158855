-- `choice::guessed` meets its contract.
-- Assumes nothing.
use Prim.Native.Nat.{pred, ◌<◌, ◌+◌}
use native.Mathlib.Omega.{arith}
use borrow.Author.Tests.{leb-false}
use Rattle.simulation.specs.Round.{round}
use Rattle.simulation.specs.Table.{states_of}
use Rattle.form.specs.Form.{start_of}
use Rattle.form.specs.Tables.{first_form, second_form, first_table, second_table, contract_table, first_step}
use Rattle.form.proofs.FormLaws.{limits, starts_ascend}
use Rattle.relate.proofs.Places.{few_places}
use Rattle.choice.proofs.Choosing.{number_of, second-state, listed_answers}
use Rattle.choice.proofs.guessed.Goals as goal
use Rattle.choice.proofs.guessed.Goals.{Else-end-l, Start}

state : (c : Start) → c.args.t < states_of (second_table c.args.tables.now)
state c = second-state c.args.tables.now c.requires.5

-- l is one of the listed transitions of t
high : (c : Else-end-l) → let a = c.args in a.l < start_of (second_form a.tables.now) (a.t + 1)
high c = omega (arith, leb-false, c.start_of-end.ensures)

pub overflow_add-t : goal.overflow_add-t
overflow_add-t c =
    record { fits = omega (arith, state (goal.at.overflow_add-t c).Start, (limits (second_form c.args.tables.now) c.requires.0.loaded.second).states-few) }

pub start_of-end-requires : goal.start_of-end-requires
start_of-end-requires c = omega (arith, state (goal.at.start_of-end-requires c).Start)

pub start_of-requires : goal.start_of-requires
start_of-requires c = omega (arith, state (goal.at.start_of-requires c).Start)

pub overflow_sub-end : goal.overflow_sub-end
overflow_sub-end c =
    let t = c.args.t in
    omega (
      arith,
      starts_ascend (second_form c.args.tables.now) c.requires.0.loaded.second t (t + 1) (omega arith) (omega (arith, state (goal.at.overflow_sub-end c).Start)),
      c.start_of.ensures,
      c.start_of-end.ensures,
    )

pub fits-requires : goal.fits-requires
fits-requires c =
    let a = c.args in
    let p = c.requires in (
      record {
        ranked = p.0;
        later = p.1;
        from_first = p.2;
        from_second = number_of (second_form a.tables.now) p.0.loaded.second a.t (state (goal.at.fits-requires c).Start) a.l p.6 (high (goal.at.fits-requires c).Else-end-l);
        amounts_room = p.3;
      },
      omega (arith, few_places (first_form a.tables.now) a.j p.0.loaded.first p.2, p.4),
    )

pub returns : goal.returns
returns c = λ h.
    let a = c.args in
    let p = c.requires in
    let tables = a.tables.now in
    let R = round (first_table tables) (contract_table tables) (pred a.r) in
    listed_answers tables p.0.loaded.second R (first_step tables a.j) a.t a.l p.5 p.6 (high (goal.at.returns c).Else-end-l) c.fits.ensures h
