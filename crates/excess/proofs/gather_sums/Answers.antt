-- `excess::gather_sums` meets its contract: the weights passed are gathered. Assumes nothing.
use mathlib.Core.Path.{◌≡◌, subst}
use Prim.Native.Nat.{ℕ, ◌*◌}
use native.Mathlib.Omega.{arith}
use lib.ListN.{length}
use Rattle.simulation.specs.Fit.{weight}
use Rattle.excess.specs.Excess.{BySets}
use Rattle.excess.proofs.Gathering.{summing_none, summing_room, summing_next, summing_total, by_sets-none, by_sets-next}
use Rattle.excess.proofs.gather_sums.Goals as goal

pub loop-j-init : goal.loop-j-init
loop-j-init g c = record { summing = summing_none c.requires.none; by_sets = λ at told. by_sets-none at c.requires.none }

pub overflow_mul-sums : goal.overflow_mul-sums
overflow_mul-sums g c =
    let known = c.requires.small c.loop-j.j c.set_of-at.result c.loop-j-test.true c.set_of-at.ensures in
    omega (arith, summing_room c.loop-j.invariant.summing c.set_of-at.result known c.loop-j-test.true c.requires.none.fits)

pub overflow_add-sums : goal.overflow_add-sums
overflow_add-sums g c =
    let known = c.requires.small c.loop-j.j c.set_of-at.result c.loop-j-test.true c.set_of-at.ensures in
    omega (arith, summing_room c.loop-j.invariant.summing c.set_of-at.result known c.loop-j-test.true c.requires.none.fits)

pub loop-j-preserved : goal.loop-j-preserved
loop-j-preserved g c =
    let j = c.loop-j.j in
    let a = c.set_of-at.result in
    let known = c.requires.small j a c.loop-j-test.true c.set_of-at.ensures in record {
      summing = summing_next c.loop-j.invariant.summing a known;
      by_sets = λ at told. by_sets-next j (told j a c.loop-j-test.true c.set_of-at.ensures) known (c.loop-j.invariant.by_sets at told);
    }

pub returns : goal.returns
returns g c =
    let a = c.args in
    let all : c.loop-j.j ≡ length a.weights.now = omega arith in record {
      by_sets = λ at told. subst (λ (n : ℕ). BySets n at (λ j. weight a.weights.now j * a.t) c.loop-j.sums) all (c.loop-j.invariant.by_sets at told);
      all = (c.loop-j.invariant.summing.size, summing_total all c.loop-j.invariant.summing);
    }
