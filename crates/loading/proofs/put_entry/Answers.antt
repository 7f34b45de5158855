-- `loading::put_entry` meets its contract.
-- Assumes nothing.
use mathlib.Core.Path.{sym, subst}
use mathlib.Core.List.{[], ◌∷◌}
use Prim.Native.Nat.{ℕ, ◌+◌}
use native.Mathlib.Omega.{arith}
use lib.ListN.{set, length-set}
use Rattle.simulation.specs.Support.{support_entries}
use Rattle.form.specs.Form.{targets_from, weights_from}
use Rattle.loading.specs.Fill.{entry_in, EntriesPut}
use Rattle.loading.proofs.SupportLaws.{put_none, put_one, put_zero, put_counted}
use Rattle.loading.proofs.put_entry.Goals as goal

pub returns-then-weight-eq0 : goal.returns-then-weight-eq0
returns-then-weight-eq0 c =
    let a = c.args in
    put_zero (entry_in a.s.now a.p) (omega (arith, c.half_at-weight.ensures.is, c.if-weight-eq0.true)) (put_none a.form.now a.n)

pub overflow_cast-form : goal.overflow_cast-form
overflow_cast-form c = omega (arith, c.type_inv.s c.args.p)

pub bounds-form-n-2 : goal.bounds-form-n-2
bounds-form-n-2 c =
    omega (arith, c.requires, length-set c.args.form.now (targets_from + c.args.n) (entry_in c.args.s.now c.args.p).target)

pub returns : goal.returns
returns c =
    let h = c.half_at-weight.ensures.is in
    let f = c.args.form.now in
    let n = c.args.n in
    let e = entry_in c.args.s.now c.args.p in
    subst (λ (w : ℕ). EntriesPut (support_entries (e ∷ [])) f n (set (set f (targets_from + n) e.target) (weights_from + n) w) (n + 1)) (sym h)
    (put_counted e (omega (arith, h, c.if-weight-eq0.false)) (put_one f n e c.requires.1 c.requires.2))
