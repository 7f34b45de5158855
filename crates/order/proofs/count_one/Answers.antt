-- `order::count_one` meets its contract. Assumes nothing.
use mathlib.Core.List.{List, ◌++◌}
use mathlib.Core.Path.{◌≡◌, sym, ap₂, subst}
use Prim.Native.Nat.{ℕ, ◌*◌, ◌≤◌, ◌<◌}
use native.Mathlib.Omega.{arith}
use Rattle.std.proofs.lemmas.Grind.{common_steps}
use lib.ListN.{length, get_or, take, drop, replicate, length-append, length-drop, length-take}
use Rattle.simulation.specs.Round.{pairs}
use Rattle.form.specs.Tables.{first_table, contract_table}
use Rattle.counting.proofs.Pairs.{number_asked}
use Rattle.counting.proofs.Counting.{root_in, one-counted}
use Rattle.order.proofs.count_one.Goals as goal
use Rattle.order.proofs.count_one.Goals.{After-number-p}

-- the counts, of which those of the pairs are emptied
abbrev emptied : After-number-p → List ℕ
emptied d = d.fill.new.self ++ drop (d.states.result * d.width.result) d.args.counts.now

room : (d : After-number-p) → pairs (first_table d.args.tables.now) (contract_table d.args.tables.now) ≤ length (emptied d)
room d = omega (
  arith,
  d.requires.2,
  d.fill.ensures.len,
  length-append d.fill.new.self (drop (d.states.result * d.width.result) d.args.counts.now),
  length-take (d.states.result * d.width.result) d.args.counts.now,
  length-drop (d.states.result * d.width.result) d.args.counts.now,
)

zero-at : (m k : ℕ) (rest : List ℕ) → k < m → get_or (replicate m 0 ++ rest) k 0 ≡ 0
zero-at m k rest lt = grind (arith, common_steps)

none : (d : After-number-p) → (k : ℕ) → k < pairs (first_table d.args.tables.now) (contract_table d.args.tables.now) → get_or (emptied d) k 0 ≡ 0
none d k lt =
    let all = d.states.result * d.width.result in
    subst (λ (l : List ℕ). get_or (l ++ drop all d.args.counts.now) k 0 ≡ 0) (sym (d.fill.ensures.after (λ y h. h)))
    (zero-at (length (take all d.args.counts.now)) k _ (omega (arith, d.requires.2, ap₂ (λ (m n : ℕ). m * n) d.states.ensures d.width.ensures, length-take all d.args.counts.now)))

pub number-p-requires : goal.number-p-requires
number-p-requires c = number_asked c.requires.1 c.requires.0

pub bounds-counts-p : goal.bounds-counts-p
bounds-counts-p c = omega (arith, c.number-p.ensures.0, root_in c.requires.1 (emptied c) (room c) (none c))

pub returns : goal.returns
returns c = rw c.number-p.ensures.0 (one-counted c.requires.1 (emptied c) (room c) (none c))
