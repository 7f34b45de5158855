-- `links::link_state` meets its contract. The loop's invariant: the targets of the transitions passed are linked.
-- Assumes nothing.
use mathlib.Core.Path.{sym, subst}
use mathlib.Core.List.{List}
use Prim.Native.Nat.{ℕ, ◌+◌, ◌<◌}
use native.Mathlib.Omega.{arith}
use Rattle.form.specs.Form.{transitions_of}
use Rattle.form.proofs.Known.{loaded}
use Rattle.form.proofs.FormLaws.{limits, start-bound}
use Rattle.relation.specs.Rows.{height}
use Rattle.gather.specs.Places.{Places}
use Rattle.decision.proofs.Fitting.{places_of}
use Rattle.links.proofs.Growing.{links-next, joins-none, joins-more}
use Rattle.links.proofs.link_state.Goals as goal
use Rattle.links.proofs.link_state.Goals.{In-loop-j, Start}

-- the form of the table
abbrev form_of : Start → List ℕ
form_of d = d.args.form.now.numbers.now

-- the transition is one of the table
step-bound : (c : In-loop-j) → c.loop-j.j < transitions_of c.args.form.now.numbers.now
step-bound c =
    omega (
      arith,
      c.start_of-end.ensures,
      start-bound c.args.form.now.numbers.now (loaded c.args.form.now) (c.args.s + 1) (omega (arith, c.requires.0)),
    )

pub overflow_add-s : goal.overflow_add-s
overflow_add-s c = omega (arith, (limits (form_of (goal.at.overflow_add-s c).Start) (loaded c.args.form.now)).states-few)

pub loop-j-init : goal.loop-j-init
loop-j-init c = (joins-none, λ k i a b. absurd (omega arith))

pub targets-requires : goal.targets-requires
targets-requires c = step-bound c

pub link_targets-requires : goal.link_targets-requires
link_targets-requires c =
    let f = form_of (goal.at.link_targets-requires c).Start in
    let rows = height c.loop-j.before in (
      subst (Places rows) (sym c.targets.ensures) (places_of rows f (loaded c.args.form.now) c.loop-j.j (step-bound (goal.at.link_targets-requires c).In-loop-j) (omega arith)),
      omega (arith, c.requires.0, (limits f (loaded c.args.form.now)).states-few),
    )

pub loop-j-preserved : goal.loop-j-preserved
loop-j-preserved c =
    let e = c.link_targets.ensures in (
      joins-more c.loop-j.invariant.0 e.0,
      links-next (form_of (goal.at.loop-j-preserved c).Start) c.args.s _ c.loop-j.j e.0.grown c.targets.ensures e.1 c.loop-j.invariant.1,
    )

pub returns : goal.returns
returns c =
    (c.loop-j.invariant.0, λ j i a b d. c.loop-j.invariant.1 j i (omega (arith, c.start_of-start.ensures)) (omega (arith, c.start_of-end.ensures)) d)
