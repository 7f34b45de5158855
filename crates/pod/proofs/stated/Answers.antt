-- `pod::stated` meets its contract: the codes end where the count of states stands, and bytes that end before end before it too.
-- Assumes nothing.
use Rattle.std.proofs.Common.{rules}
use mathlib.Core.Path.{◌≡◌, refl}
use Prim.Native.Nat.{ℕ, ◌+◌, ◌*◌}
use native.Mathlib.Omega.{arith}
use lib.ListN.{length}
use Rattle.simulation.specs.Limits.{wide}
use Rattle.layout.specs.Bytes.{actions, states_start, states}
use Rattle.layout.proofs.Fields.{field-small}
use Rattle.layout.proofs.Bounds.{actions-is}
use Rattle.layout.proofs.RefusalLaws.{cut_before}
use Rattle.pod.proofs.stated.Goals as goal
use Rattle.pod.proofs.stated.Goals.{In_ok-codes}

count : (c : In_ok-codes) → c.in_ok-codes.codes ≡ actions wide c.args.bytes.now
unfolding actions
count c = rw (c.wide.ensures.width, c.wide.ensures.same, c.new.ensures) at c.in_ok-codes.ensures.1.0

-- a place behind the codes is where the count of states stands
after : (c : In_ok-codes) {q : ℕ} → q ≡ c.in_ok-codes.c.at + 2 * c.in_ok-codes.codes → q ≡ states_start wide c.args.bytes.now
after c e = omega (arith, count c, c.in_ok-codes.ensures.1.1, c.new.ensures, c.wide.ensures.width)

pub returns-in_err-codes : goal.returns-in_err-codes
returns-in_err-codes c =
    let s = c.args.bytes.now in
    let told = cut_before 2 (states_start wide s + 1) (length s) c.in_err-codes.field-0.0 (omega arith) (rw (c.new.ensures, c.wide.ensures.width, c.wide.ensures.same) at c.in_err-codes.ensures) in
    search rules

pub overflow_mul-codes : goal.overflow_mul-codes
overflow_mul-codes c =
    let s = c.args.bytes.now in
    omega (arith, count (goal.at.overflow_mul-codes c).In_ok-codes, actions-is wide s, field-small wide s (λ i. omega (arith, c.type_inv.bytes i)) 0)

pub returns-in_err-c : goal.returns-in_err-c
returns-in_err-c c =
    let s = c.args.bytes.now in
    let place = after (goal.at.returns-in_err-c c).In_ok-codes refl in
    let told = cut_before (states_start wide s) (states_start wide s + 1) (length s) c.in_err-c.field-0.0 (omega arith) (rw place at c.in_err-c.ensures) in
    search rules

pub returns-in_err-count : goal.returns-in_err-count
returns-in_err-count c =
    let place = after (goal.at.returns-in_err-count c).In_ok-codes c.in_ok-c.ensures.1.1 in
    let told = rw place at c.in_err-count.ensures in
    search rules

pub returns : goal.returns
unfolding states
returns c =
    let place = after (goal.at.returns c).In_ok-codes c.in_ok-c.ensures.1.1 in
    let told = rw place at c.in_ok-count.ensures in
    (told.0, told.1.0)
