-- `items::items::target_right` meets its contract.
-- Assumes nothing.
use Prim.Native.Nat.{◌+◌, ◌*◌}
use native.Mathlib.Omega.{arith}
use borrow.Author.Tests.{le-ltb, lt-ltb, eq-eqb, ne_eqb}
use Rattle.layout.specs.Bytes.{byte, target_right}
use Rattle.items.proofs.items.target_right.Goals as goal

pub returns-then-k-eq0 : goal.returns-then-k-eq0
unfolding target_right
returns-then-k-eq0 c =
    let a = c.args in
    let h = lt-ltb (byte a.s.now (a.p + 3 * a.k)) a.n (omega arith) in
    rw (h, eq-eqb a.k 0 c.if-k-eq0.true)

pub returns-else-k-eq0 : goal.returns-else-k-eq0
unfolding target_right
returns-else-k-eq0 c =
    let a = c.args in
    let h = lt-ltb (byte a.s.now (a.p + 3 * a.k)) a.n (omega arith) in
    rw (h, ne_eqb a.k 0 c.if-k-eq0.false, c.byte_at.ensures.is, c.byte_at-target.ensures.is)

pub returns-else-target-n : goal.returns-else-target-n
unfolding target_right
returns-else-target-n c =
    let a = c.args in
    let h = le-ltb (byte a.s.now (a.p + 3 * a.k)) a.n (omega arith) in
    rw (c.byte_at-target.ensures.is, h)
