-- `fit::fits_some` meets its contract. The loop's invariant: none of the transitions passed fits, and what was tried before stands.
-- Assumes nothing.
use mathlib.Core.Path.{◌≡◌, refl, sym, ◌∙◌, subst}
use Prim.Native.Nat.{ℕ, ◌+◌, ◌-◌, ◌*◌, ◌≤◌}
use native.Mathlib.Omega.{arith}
use lib.ListN.{get_or}
use Rattle.simulation.specs.Limits.{most_states, most_transitions, most_of_state}
use Rattle.form.specs.Form.{start_of, transitions_of}
use Rattle.form.specs.Tables.{first_form, second_form}
use Rattle.form.proofs.FormLaws.{limits, start-bound, few_each}
use Rattle.fit.specs.Known.{Tried}
use Rattle.fit.proofs.Steps.{one_passes, none_passes}
use Rattle.fit.proofs.Trying.{lent_again, tried_guess, start-few, Unfitted, unfitted_start, unfitted_next, unfitted_coded, fits-coded, tried-next}
use Rattle.fit.proofs.fits_some.Goals as goal
use Rattle.fit.proofs.fits_some.Goals.{In-Some, After-code-code, Start}

-- the places are few, and so are the transitions of t
place-few : (d : Start) → (d.args.j + 1) * most_states + d.args.t ≤ (most_transitions + 1) * most_states
place-few d =
    let tables = d.args.tables.now in
    omega (arith, d.requires.2, d.requires.3, (limits (first_form tables) d.requires.0.loaded.first).transitions-few, (limits (second_form tables) d.requires.0.loaded.second).states-few)

start_small : (d : Start) → start_of (second_form d.args.tables.now) d.args.t ≤ most_transitions
start_small d = start-few (second_form d.args.tables.now) d.requires.0.loaded.second d.args.t (omega (arith, d.requires.3))

end-bound : (d : Start) → start_of (second_form d.args.tables.now) (d.args.t + 1) ≤ transitions_of (second_form d.args.tables.now)
end-bound d = start-bound (second_form d.args.tables.now) d.requires.0.loaded.second (d.args.t + 1) (omega (arith, d.requires.3))

-- a search begins among the few transitions, or less than a byte behind
begin_few : (s : After-code-code)
    → s.start_of-start.result + get_or s.args.tried.now ((s.args.j + 1) * most_states + s.args.t) 0 ≤ most_transitions + most_of_state
begin_few s =
    omega (arith, s.type_inv.tried ((s.args.j + 1) * most_states + s.args.t), s.start_of-start.ensures, start-few (second_form s.args.tables.now) s.requires.0.loaded.second s.args.t (omega (arith, s.requires.3)))

-- the next with the code: those before it are passed, and it is behind the start and counted by a byte
next_unfitted : (n : In-Some) → let a = n.args in Unfitted a.tables.now a.rows.now a.j a.t n.in-Some.next
next_unfitted n =
    let a = n.args in
    unfitted_coded a.tables.now a.rows.now a.j a.t n.code-code.ensures n.in-Some.ensures.passed n.loop-next.invariant.3

behind : (n : In-Some) → n.start_of-start.result ≤ n.in-Some.next
behind n = omega (arith, n.loop-next.invariant.0, n.start_of-start.ensures, n.in-Some.ensures.from)

counted : (n : In-Some) → n.in-Some.next ≤ n.start_of-start.result + most_of_state
counted n =
    omega (
      arith,
      n.in-Some.ensures.to,
      n.start_of-start.ensures,
      n.start_of-end.ensures,
      few_each (second_form n.args.tables.now) n.requires.0.loaded.second n.args.t n.requires.3,
    )

pub overflow_add-l : goal.overflow_add-l
overflow_add-l c = omega (arith, begin_few (goal.at.overflow_add-l c).After-code-code)

pub overflow_add-l-2 : goal.overflow_add-l-2
overflow_add-l-2 c = omega (arith, begin_few (goal.at.overflow_add-l-2 c).After-code-code)

pub overflow_add-guess : goal.overflow_add-guess
overflow_add-guess c =
    omega (arith, c.type_inv.tried c.args.t, c.start_of-start.ensures, start_small (goal.at.overflow_add-guess c).Start)

pub fits_guess-requires : goal.fits_guess-requires
fits_guess-requires c =
    (c.requires.0, c.requires.2, omega (arith, c.start_of-end.ensures, end-bound (goal.at.fits_guess-requires c).Start))

pub returns-then-fits_guess : goal.returns-then-fits_guess
returns-then-fits_guess c =
    let e = c.start_of-start.ensures in
    let w = c.fits_guess.ensures c.if-fits_guess.true in
    record {
      answer =
          one_passes (second_form c.args.tables.now) c.requires.0.loaded.second c.args.t c.requires.3 _ _ (omega arith) (omega (arith, w.0, c.start_of-end.ensures))
          (sym w.1) refl;
      known = c.requires.1;
    }

pub loop-next-init : goal.loop-next-init
loop-next-init c =
    let e = c.start_of-start.ensures in
    (omega arith, refl, refl, unfitted_start _ _ _ _ c.requires.1 c.requires.2 c.requires.3 (omega arith))

pub next_coded-requires : goal.next_coded-requires
next_coded-requires c = (c.requires.0.loaded, omega (arith, c.start_of-end.ensures, end-bound (goal.at.next_coded-requires c).Start))

pub fits_known-requires : goal.fits_known-requires
fits_known-requires c = (
  lent_again c.requires.0 (c.loop-next.invariant.2 ∙ c.if-l-end.auto.amounts),
  c.requires.2,
  omega (arith, c.in-Some.ensures.to, c.start_of-end.ensures, end-bound (goal.at.fits_known-requires c).Start),
  c.requires.4,
)

pub overflow_cast-at : goal.overflow_cast-at
overflow_cast-at c = omega (arith, counted (goal.at.overflow_cast-at c).In-Some)

pub returns-then-fits_known : goal.returns-then-fits_known
returns-then-fits_known c =
    let tables = c.args.tables.now in
    let rows = c.args.rows.now in
    let s = (goal.at.returns-then-fits_known c).In-Some in
    let r = c.in-Some.next in
    let n : ℕ = r - c.start_of-start.result in
    let e : start_of (second_form tables) c.args.t + n ≡ r = omega (arith, behind s, c.start_of-start.ensures) in
    record {
      answer =
          one_passes (second_form tables) c.requires.0.loaded.second c.args.t c.requires.3 _ r (omega arith) (omega (arith, c.in-Some.ensures.to, c.start_of-end.ensures))
          (fits-coded tables rows c.args.j c.args.t c.code-code.ensures r c.in-Some.ensures.found c.fits_known.ensures) c.if-fits_known.true;
      known =
          tried_guess
          (tried-next tables rows c.args.j c.args.t c.requires.0.loaded c.requires.2 c.requires.3 c.loop-next.tried n
          (subst (Tried tables rows) (sym c.loop-next.invariant.1) c.requires.1) (subst (Unfitted tables rows c.args.j c.args.t) (sym e) (next_unfitted s)))
          c.args.t n (omega (arith, c.requires.3, (limits (second_form tables) c.requires.0.loaded.second).states-few));
    }

pub loop-next-preserved : goal.loop-next-preserved
loop-next-preserved c =
    let a = c.args in
    let s = (goal.at.loop-next-preserved c).In-Some in (
      omega (arith, c.loop-next.invariant.0, c.in-Some.ensures.from),
      c.loop-next.invariant.1,
      c.fits_known.auto.amounts ∙ c.loop-next.invariant.2,
      unfitted_next a.tables.now a.rows.now a.j a.t (next_unfitted s)
          (fits-coded a.tables.now a.rows.now a.j a.t c.code-code.ensures c.in-Some.next c.in-Some.ensures.found c.fits_known.ensures) c.if-fits_known.false,
    )

pub returns : goal.returns
returns c =
    let a = c.args in
    let e = c.start_of-end.ensures in
    let none = unfitted_coded a.tables.now a.rows.now a.j a.t c.code-code.ensures {r = c.start_of-end.result} c.in_default.ensures c.loop-next.invariant.3 in
    record {
      answer = none_passes (second_form a.tables.now) c.requires.0.loaded.second a.t c.requires.3 _ (λ k v w. none k v (omega arith) w);
      known = subst (Tried a.tables.now a.rows.now) (sym c.loop-next.invariant.1) c.requires.1;
    }
