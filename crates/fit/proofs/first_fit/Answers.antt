-- `fit::first_fit` meets its contract. The loop's invariant: none of the transitions passed fits.
-- Assumes nothing.
use mathlib.Core.Path.{◌≡◌, ◌∙◌}
use Prim.Native.Nat.{◌≤◌}
use native.Mathlib.Omega.{arith}
use Rattle.form.specs.Form.{start_of}
use Rattle.form.specs.Tables.{second_form}
use Rattle.form.proofs.FormLaws.{counts}
use Rattle.fit.specs.Held.{fits_step_at}
use Rattle.fit.proofs.Trying.{Unfitted, unfitted_next, unfitted_coded, fits-coded}
use Rattle.fit.proofs.Partner.{search_asked, seek_within, seek_asked, seek_found}
use Rattle.fit.proofs.first_fit.Goals as goal
use Rattle.fit.proofs.first_fit.Goals.{After-by_flow-fits, In-Some}

-- the one reached lies behind the start, and none before it fits
behind : (n : In-Some) → start_of (second_form n.args.tables.now) n.args.t ≤ n.in-Some.next
behind n = omega (arith, n.loop-next.invariant.0, n.in-Some.ensures.from)

before : (n : In-Some) → let a = n.args in Unfitted a.tables.now a.rows.now a.j a.t n.in-Some.next
before n = let a = n.args in unfitted_coded a.tables.now a.rows.now a.j a.t n.code-code.ensures n.in-Some.ensures.passed n.loop-next.invariant.2

-- the flow tells of it
fits : (c : After-by_flow-fits) → let a = c.args in c.by_flow-fits.result ≡ fits_step_at a.tables.now a.rows.now a.j c.in-Some.next
fits c = let a = c.args in fits-coded a.tables.now a.rows.now a.j a.t c.code-code.ensures c.in-Some.next c.in-Some.ensures.found c.by_flow-fits.ensures.answer

pub next_coded-requires : goal.next_coded-requires
next_coded-requires c = search_asked c.requires.loaded c.requires.state c.start_of-start.ensures c.start_of-end.ensures

pub by_flow-fits-requires : goal.by_flow-fits-requires
by_flow-fits-requires c =
    let n = (goal.at.by_flow-fits-requires c).In-Some in seek_asked c.requires (behind n) (before n) c.loop-next.invariant.1

pub returns-then-fits : goal.returns-then-fits
returns-then-fits c =
    let found = (goal.at.returns-then-fits c).After-by_flow-fits in
    let n = (goal.at.returns-then-fits c).In-Some in
    seek_found c.requires (behind n) (before n) c.start_of-start.ensures (fits found) c.by_flow-fits.ensures c.if-fits.true

pub loop-next-preserved : goal.loop-next-preserved
loop-next-preserved c =
    let a = c.args in
    let n = (goal.at.loop-next-preserved c).In-Some in (
      omega (arith, behind n),
      c.by_flow-fits.auto.amounts ∙ c.loop-next.invariant.1,
      unfitted_next a.tables.now a.rows.now a.j a.t (before n) (fits (goal.at.loop-next-preserved c).After-by_flow-fits) c.if-fits.false,
    )

pub unreachable-requires : goal.unreachable-requires
unreachable-requires c =
    let a = c.args in
    let end = c.start_of-end.result in
    let from : start_of (second_form a.tables.now) a.t ≤ end = omega (arith, c.start_of-end.ensures, counts (second_form a.tables.now) c.requires.loaded.second a.t c.requires.state) in
    let none : Unfitted a.tables.now a.rows.now a.j a.t end = unfitted_coded a.tables.now a.rows.now a.j a.t c.code-code.ensures c.in_default.ensures c.loop-next.invariant.2 in
    omega (arith, c.start_of-end.ensures, seek_within c.requires from none)
