-- `compare::show_any` meets its contract.
-- Assumes nothing.
use mathlib.Core.Logic.{⊎_elim}
use native.Mathlib.Omega.{arith}
use Rattle.compare.proofs.Comparing.{is-outside, has-short_ranks}
use Rattle.pair_tree.proofs.Putting.{count-is, count_small}
use Rattle.compare.proofs.show_any.Goals as goal

pub overflow_mul-pairs : goal.overflow_mul-pairs
overflow_mul-pairs c = let p = c.requires in omega (arith, count_small p c.states-p.ensures c.width-q.ensures)

pub overflow_cast-result : goal.overflow_cast-result
overflow_cast-result c = let p = c.requires in omega (arith, count_small p c.states-p.ensures c.width-q.ensures)

pub returns-then-p-s : goal.returns-then-p-s
returns-then-p-s c =
    let ep = c.states-p.ensures in
    let eq = c.width-q.ensures in
    is-outside _ _ _ _ _ _ _ (λ i. ⊎_elim (λ h. omega (arith, ep, i.0)) (λ h. omega (arith, eq, i.1, h.1)) c.then-p-s.either)

pub returns-then-ranks-pairs : goal.returns-then-ranks-pairs
returns-then-ranks-pairs c =
    let ep = c.states-p.ensures in
    let eq = c.width-q.ensures in
    has-short_ranks _ _ _ _ _ _ _ (omega (arith, ep), omega (arith, eq)) (count-is c.requires ep eq) (omega arith)

pub show-requires : goal.show-requires
show-requires c =
    let ep = c.states-p.ensures in
    let eq = c.width-q.ensures in
    let p = c.requires in
    record { loaded = p; first = omega (arith, ep); second = omega (arith, eq); ranks_room = omega (arith, count-is p ep eq) }
