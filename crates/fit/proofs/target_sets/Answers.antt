-- `fit::target_sets` meets its contract: the places passed have their sets. Assumes nothing.
use mathlib.Core.Path.{◌≡◌, refl, sym, ◌∙◌, ap, subst}
use Prim.Native.Nat.{ℕ, ◌+◌, ◌<◌}
use native.Mathlib.Omega.{arith}
use lib.ListN.{length}
use Rattle.simulation.specs.Limits.{most_states}
use Rattle.relation.specs.Rows.{height}
use Rattle.relation.proofs.RowLaws.{length_put}
use Rattle.form.specs.Tables.{second_form}
use Rattle.form.proofs.FormLaws.{limits}
use Rattle.gather.specs.Places.{Places}
use Rattle.decision.proofs.Fitting.{places_of}
use Rattle.fit.proofs.Sets.{SetsTo, sets-next, last-start}
use Rattle.fit.proofs.target_sets.Goals as goal
use Rattle.fit.proofs.target_sets.Goals.{In-loop-l}

-- each transition has a place
has-place : (t : In-loop-l) → t.loop-l.l < height t.loop-l.sets
has-place t =
    omega (arith, t.loop-l-test.true, t.loop-l.invariant.1, t.loop-l.invariant.2, (limits (second_form t.args.tables.now) t.requires.0.second).transitions-few, t.requires.1)

pub start_of-n-requires : goal.start_of-n-requires
start_of-n-requires c = omega (arith, c.states.ensures)

pub loop-l-init : goal.loop-l-init
loop-l-init c =
    let f = second_form c.args.tables.now in
    (omega arith, subst (λ (n : ℕ). c.start_of-n.result ≡ n) (last-start f) (rw (← c.states.ensures) c.start_of-n.ensures), refl, λ k a. absurd (omega arith))

pub targets-targets-requires : goal.targets-targets-requires
targets-targets-requires c = omega (arith, c.loop-l.invariant.1, c.loop-l-test.true)

pub set_of-requires : goal.set_of-requires
set_of-requires c =
    subst (Places most_states) (sym c.targets-targets.ensures)
    (places_of most_states (second_form c.args.tables.now) c.requires.0.second c.loop-l.l (omega (arith, c.loop-l.invariant.1, c.loop-l-test.true)) (omega arith))

pub put-requires : goal.put-requires
put-requires c = has-place (goal.at.put-requires c).In-loop-l

pub loop-l-preserved : goal.loop-l-preserved
loop-l-preserved c =
    let o = c.loop-l in
    let f = second_form c.args.tables.now in
    let s = c.set_of in
    let e = c.put.ensures in (
      omega (arith, c.loop-l-test.true),
      o.invariant.1,
      ap length e ∙ length_put o.sets o.l s.result ∙ o.invariant.2,
      subst (SetsTo f (o.l + 1)) (sym e) (sets-next f o.sets o.l s.result (has-place (goal.at.loop-l-preserved c).In-loop-l) c.targets-targets.ensures s.ensures o.invariant.3),
    )

pub shape_of-sets : goal.shape_of-sets
shape_of-sets c = c.loop-l.invariant.2

pub returns : goal.returns
returns c =
    let h = c.loop-l.invariant.3 in
    record {
      room = omega (arith, c.loop-l.invariant.2, c.requires.1);
      has = λ k i a b. (h k (omega (arith, c.loop-l.invariant.1))).has i b;
      only = λ k u a m. (h k (omega (arith, c.loop-l.invariant.1))).only u m;
    }
