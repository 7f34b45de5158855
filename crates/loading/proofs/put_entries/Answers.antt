-- `loading::put_entries` meets its contract: the entries below the loop's counter are put.
-- Assumes nothing.
use mathlib.Core.Path.{◌≡◌}
use native.Mathlib.Omega.{arith}
use Rattle.loading.proofs.SupportLaws.{support-none, support-more, support-few}
use Rattle.loading.proofs.put_entries.Goals as goal

pub loop-k-init : goal.loop-k-init
loop-k-init c = let a = c.args in (omega arith, support-none a.s.now a.p a.form.now a.n)

pub put_entry-next-requires : goal.put_entry-next-requires
put_entry-next-requires c =
    let a = c.args in
    let h = c.loop-k.invariant.1 in
    (omega arith, omega (arith, support-few a.s.now a.p c.loop-k.k h), omega (arith, h.elsewhere.long))

pub loop-k-preserved : goal.loop-k-preserved
loop-k-preserved c =
    let a = c.args in
    (omega arith, support-more a.s.now a.p c.loop-k.k c.loop-k.invariant.1 c.put_entry-next.ensures)

pub returns : goal.returns
returns c =
    let e : c.loop-k.k ≡ c.args.size = omega arith in
    rw e at c.loop-k.invariant.1
