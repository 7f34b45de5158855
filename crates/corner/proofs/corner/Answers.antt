-- `corner::corner` meets its contract: the loop's turns are those of `Turn`, over the lists and sums of the code. Assumes nothing.
use mathlib.Core.Path.{◌≡◌, ap}
use Prim.Native.Nat.{ℕ, ◌+◌, ◌*◌, ◌<◌, ◌^◌}
use native.Mathlib.Omega.{arith}
use lib.Bits.{bit_and}
use lib.Dec.{eqb→eq}
use lib.ListN.{length}
use Rattle.simulation.specs.Fit.{weight, total}
use Rattle.simulation.proofs.Finite.Tests.{true_T}
use Rattle.matrix.specs.Problem.{joins}
use Rattle.corner.proofs.Turn.{Turn, start, all-passed, row_fits, column_fits, turn, both-done, row_done, column-done}
use Rattle.corner.proofs.corner.Goals as goal
use Rattle.corner.proofs.corner.Goals.{After-bit-related, In-loop-i}

-- where the shares of a turn end
abbrev row-end : In-loop-i → ℕ
row-end c = c.loop-i.a + weight c.args.m.weights.now c.loop-i.i * c.total_weight-u.result

abbrev column-end : In-loop-i → ℕ
column-end c = c.loop-i.b + weight c.args.n.weights.now c.loop-i.j * c.total_weight-t.result

-- they are those of the laws, and fit 32 bits
row_is : (c : In-loop-i) → row-end c ≡ c.loop-i.a + weight c.args.m.weights.now c.loop-i.i * total c.args.n.weights.now
row_is c = ap (λ k. c.loop-i.a + weight c.args.m.weights.now c.loop-i.i * k) c.total_weight-u.ensures

column-is : (c : In-loop-i) → column-end c ≡ c.loop-i.b + weight c.args.n.weights.now c.loop-i.j * total c.args.m.weights.now
column-is c = ap (λ k. c.loop-i.b + weight c.args.n.weights.now c.loop-i.j * k) c.total_weight-t.ensures

row_room : (c : In-loop-i) → row-end c < 2 ^ 32
row_room c = omega (arith, row_is c, row_fits c.loop-i.invariant c.args.m.light c.args.n.light c.loop-i-test.true)

column-room : (c : In-loop-i) → column-end c < 2 ^ 32
column-room c = omega (arith, column-is c, column_fits c.loop-i.invariant c.args.m.light c.args.n.light c.loop-i-test.true)

-- the rule's column is there in every turn
column-there : (c : In-loop-i) → c.loop-i.j < length c.args.n.weights.now
column-there c = c.loop-i.invariant.column c.loop-i-test.true

-- what the code has computed before it chooses where to go on
found : (c : After-bit-related) → let a = c.args in let l = c.loop-i in
    Turn (joins a.rows.now a.m.targets.now a.n.targets.now) a.m.weights.now a.n.weights.now l.i l.j
    (l.a + weight a.m.weights.now l.i * c.total_weight-u.result) (l.b + weight a.n.weights.now l.j * c.total_weight-t.result)
    (bit_and l.related c.bit-related.result)
found c =
    let l = c.loop-i in
    turn l.invariant c.loop-i-test.true
    (ap (λ k. l.a + weight c.args.m.weights.now l.i * k) c.total_weight-u.ensures)
    (ap (λ k. l.b + weight c.args.n.weights.now l.j * k) c.total_weight-t.ensures)
    c.bit-related.ensures

pub loop-i-init : goal.loop-i-init
loop-i-init c = start c.args.n.some

pub overflow_add-x : goal.overflow_add-x
overflow_add-x c = omega (arith, row_room (goal.at.overflow_add-x c).In-loop-i)

pub overflow_add-y : goal.overflow_add-y
overflow_add-y c = omega (arith, column-room (goal.at.overflow_add-y c).In-loop-i)

pub loop-i-preserved-then-x-y : goal.loop-i-preserved-then-x-y
loop-i-preserved-then-x-y c = both-done (found (goal.at.loop-i-preserved-then-x-y c).After-bit-related) c.args.m.positive c.args.n.positive c.if-x-y.true

pub loop-i-preserved-then-x-y-2 : goal.loop-i-preserved-then-x-y-2
loop-i-preserved-then-x-y-2 c = row_done (found (goal.at.loop-i-preserved-then-x-y-2 c).After-bit-related) c.if-x-y-2.true c.loop-i.invariant.column-start

pub loop-i-preserved : goal.loop-i-preserved
loop-i-preserved c = column-done (found (goal.at.loop-i-preserved c).After-bit-related) (omega (arith, c.if-x-y-2.false, c.if-x-y.false)) c.loop-i.invariant.row-start

pub returns : goal.returns
returns c = λ e. all-passed c.loop-i.invariant c.loop-i-test.false (eqb→eq c.loop-i.related 1 (true_T e))
