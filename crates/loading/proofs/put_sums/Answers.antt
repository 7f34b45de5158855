-- `loading::put_sums` meets its contract: the sum is that of the bytes passed, and the column is filled up to there.
-- Assumes nothing.
use mathlib.Core.Path.{◌≡◌}
use Prim.Native.Nat.{◌+◌, ◌*◌, ◌<◌}
use lib.ListN.{length, length-set}
use native.Mathlib.Omega.{arith}
use Rattle.simulation.proofs.Finite.Sums.{sum-none, sum_more}
use Rattle.loading.proofs.FillLaws.{filled_none, filled_more}
use Rattle.loading.proofs.put_sums.Goals as goal
use Rattle.loading.proofs.put_sums.Goals.{In-loop-i}

-- the byte that is read is there
there : (c : In-loop-i) → c.args.from + c.args.step * c.loop-i.i < length c.args.s.now
there c = c.requires.0.bytes c.loop-i.i c.loop-i-test.true

pub loop-i-init : goal.loop-i-init
loop-i-init c = (omega arith, sum-none _, omega arith, filled_none c.args.form.now c.args.to _)

pub overflow_mul-sum : goal.overflow_mul-sum
overflow_mul-sum c = omega (arith, there c)

pub overflow_add-sum : goal.overflow_add-sum
overflow_add-sum c = omega (arith, there c)

pub bounds-s-from : goal.bounds-s-from
bounds-s-from c = there (goal.at.bounds-s-from c).In-loop-i

pub overflow_cast-sum : goal.overflow_cast-sum
overflow_cast-sum c = omega (arith, c.type_inv.s (c.args.from + c.args.step * c.loop-i.i))

pub overflow_add-sum-in-loop-i : goal.overflow_add-sum-in-loop-i
overflow_add-sum-in-loop-i c = omega (arith, c.type_inv.s (c.args.from + c.args.step * c.loop-i.i))

pub loop-i-preserved : goal.loop-i-preserved
loop-i-preserved c = (
  omega arith,
  sum_more c.loop-i.i _ c.loop-i.invariant.1,
  omega (arith, c.type_inv.s (c.args.from + c.args.step * c.loop-i.i)),
  filled_more c.args.form.now c.args.to c.loop-i.i _ _ c.loop-i.invariant.3 (omega arith) c.loop-i.invariant.1,
)

pub shape_of-form : goal.shape_of-form
shape_of-form c = simp length-set c.loop-i.invariant.3.long

pub returns : goal.returns
returns c =
    let e : c.loop-i.i ≡ c.args.n = omega arith in
    filled_more c.args.form.now c.args.to c.args.n _ _ (rw e at c.loop-i.invariant.3) (omega arith) (rw e at c.loop-i.invariant.1)
