-- `form::Form::distribution` meets its contract: what holds of each transition of a form. Assumes nothing.
use mathlib.Core.Path.{ap, sym, ◌∙◌}
use native.Mathlib.Omega.{arith}
use lib.ListN.{length}
use Rattle.simulation.specs.Fit.{total}
use Rattle.form.specs.Form.{transition_at}
use Rattle.form.proofs.FormLaws.{limits, limited_at, distribution-at, positive-at, targets-length}
use Rattle.form.proofs.Known.{loaded}
use Rattle.form.proofs.form.Form.distribution.Goals as goal

pub invariant_of-result : goal.invariant_of-result
invariant_of-result c =
    let f = c.args.self.now.numbers.now in
    let l = loaded c.args.self.now in
    let j = c.args.j in
    let limited = limited_at f l j c.requires in
    let t = c.targets.ensures in
    let w = c.weights.ensures in
    record {
      paired = ap length t ∙ limited.paired ∙ sym (ap length w);
      some = omega (arith, ap length w, limited.some);
      few = omega (arith, ap length w, limited.few);
      positive = rw w (positive-at f l j c.requires);
      light = omega (arith, ap total w, limited.total-small);
    }

pub returns-clause-states : goal.returns-clause-states
returns-clause-states c =
    let f = c.args.self.now.numbers.now in
    let l = loaded c.args.self.now in
    let m = transition_at f c.args.j in
    rw c.targets.ensures (λ i lt. omega (arith, (distribution-at f l c.args.j c.requires).in_range i (omega (arith, targets-length m)), (limits f l).states-few))

pub returns-clause-ascending : goal.returns-clause-ascending
returns-clause-ascending c =
    let f = c.args.self.now.numbers.now in
    let m = transition_at f c.args.j in
    rw c.targets.ensures (λ i lt. (distribution-at f (loaded c.args.self.now) c.args.j c.requires).ascending i (omega (arith, targets-length m)))
