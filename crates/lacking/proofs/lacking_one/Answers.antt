-- `lacking::lacking_one` meets its contract. The loop's invariant: the set has the states that lack the code of a transition passed.
-- Assumes nothing.
use mathlib.Core.Path.{sym, subst, subst₂}
use Prim.Native.Nat.{ℕ, pred, ◌+◌, ◌<◌}
use native.Mathlib.Omega.{arith}
use Rattle.simulation.proofs.Complete.Codes.{lists-same}
use Rattle.set.specs.Words.{mask}
use Rattle.set.specs.declared.Set.{Set}
use Rattle.form.specs.Form.{transitions_of, table_of}
use Rattle.form.specs.Tables.{first_form, contract_table}
use Rattle.form.proofs.FormLaws.{counts, start-bound}
use Rattle.form.proofs.Contract.{own_code}
use Rattle.lacking.proofs.Lacked.{Lacked, lacked-start, lacked-next, lacked_again, lacked-end}
use Rattle.lacking.proofs.lacking_one.Goals as goal
use Rattle.lacking.proofs.lacking_one.Goals.{else-not-repeats, then-not-repeats, In-loop-j}

pub loop-j-init : goal.loop-j-init
loop-j-init c =
    let tables = c.args.tables.now in (
      omega arith,
      omega (arith, c.start_of-start.ensures, c.start_of-end.ensures, counts (first_form tables) c.requires.0.first c.args.s c.requires.1),
      lacked-start (first_form tables) (contract_table tables) c.empty-without.ensures,
    )

-- j is a transition of the first table
own : (c : In-loop-j) → c.loop-j.j < transitions_of (first_form c.args.tables.now)
own c =
    omega (arith, c.loop-j-test.true, c.start_of-end.ensures, start-bound (first_form c.args.tables.now) c.requires.0.first (c.args.s + 1) (omega (arith, c.requires.1)))

pub repeats-requires : goal.repeats-requires
repeats-requires c = own c

pub code-code-requires : goal.code-code-requires
code-code-requires c = own (goal.at.code-code-requires c).In-loop-j

pub unanswered-requires : goal.unanswered-requires
unanswered-requires c =
    let f = first_form c.args.tables.now in
    (c.requires.0, lists-same (table_of f).codes c.code-code.ensures (own_code f c.requires.0.first c.loop-j.j (own (goal.at.unanswered-requires c).In-loop-j)))

pub loop-j-preserved : goal.loop-j-preserved
loop-j-preserved c =
    let f = first_form c.args.tables.now in
    let N = contract_table c.args.tables.now in
    let i = c.loop-j.invariant in
    let start = c.start_of-start.result in (
      omega (arith, i.0),
      omega (arith, c.loop-j-test.true),
      elim c.if-not-repeats.branch [
        | then-not-repeats w ↦
            subst (λ (x : Set). Lacked f N start (c.loop-j.j + 1) (mask x)) (sym w.without-is)
            (lacked-next f N (mask w.unanswered.result) i.0 w.code-code.ensures w.unanswered.ensures w.union-without.ensures i.2)
        | else-not-repeats w ↦
            let again = c.repeats.ensures w.if-not-repeats.false in
            subst (λ (x : Set). Lacked f N start (c.loop-j.j + 1) (mask x)) (sym w.without-is)
            (lacked_again f N (pred c.loop-j.j) (omega (arith, again.0)) (omega (arith, again.0)) again.1 i.2)
      ],
    )

pub returns : goal.returns
returns c =
    let tables = c.args.tables.now in
    lacked-end (first_form tables) c.requires.0.first (contract_table tables) c.args.s c.requires.1
    (subst₂ (λ (a b : ℕ). Lacked (first_form tables) (contract_table tables) a b (mask c.loop-j.without)) c.start_of-start.ensures
    (omega (arith, c.loop-j-test.false, c.loop-j.invariant.1, c.start_of-end.ensures)) c.loop-j.invariant.2)
