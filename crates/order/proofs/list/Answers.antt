-- `order::list` meets its contract. Assumes nothing.
use Rattle.form.specs.declared.tables.Tables.{Tables}
use mathlib.Core.List.{List}
use mathlib.Core.Path.{◌≡◌, refl, sym, ◌∙◌, subst₂}
use mathlib.Core.Logic.{inl}
use Prim.Native.Nat.{ℕ, ◌≤◌, ◌<◌}
use native.Mathlib.Omega.{arith}
use Rattle.std.proofs.Common.{rules, lit≤}
use Rattle.simulation.specs.Limits.{most_states}
use Rattle.counting.proofs.Pairs.{rank_asked, lost-low}
use Rattle.counting.specs.Count.{longest}
use Rattle.order.specs.Order.{Listed}
use Rattle.order.proofs.Walks.{RootAlone, root-alone, root-walking}
use Rattle.order.proofs.list.Goals as goal
use Rattle.order.proofs.list.Goals.{After-put, Start}

low : (e : Start) → (e.args.s < most_states) × (e.args.t < most_states)
low e = lost-low e.requires.1 e.requires.0.ranked.loaded

-- the root alone is to be passed
root : (d : After-put) → RootAlone d.args.s d.args.t d.put.new.rows
root d =
    let cleared = d.clear in
    root-alone cleared.new.rows cleared.auto.rows cleared.ensures (low (goal.at.After-put d).Start).0 d.single.result d.single.ensures d.put.ensures

-- the lists are those of the walk
listed-as : {tables : Tables} {order choices order' choices' : List ℕ} {s t n : ℕ} → Listed tables s t order choices n → order' ≡ order → choices' ≡ choices → Listed tables s t order' choices' n
listed-as {tables} {order} {s = s} {t} {n} l eo ec =
    subst₂ (λ (order choices : List ℕ). Listed tables s t order choices n) (sym eo) (sym ec) l

pub single-requires : goal.single-requires
single-requires c = (low (goal.at.single-requires c).Start).1

pub rank_at-requires : goal.rank_at-requires
rank_at-requires c = rank_asked c.requires.1 c.requires.0.ranked

pub pass_ranks-requires : goal.pass_ranks-requires
pass_ranks-requires c =
    let p = c.requires in
    root-walking p.0 p.1 (root (goal.at.pass_ranks-requires c).After-put) (lit≤ tt) c.count_one.ensures.tally refl c.single-2.ensures
    (c.rank_at.ensures ∙ p.0.ranked.ranked c.args.s c.args.t p.1.left p.1.right)

pub returns-then-all-gt-LONGEST : goal.returns-then-all-gt-LONGEST
returns-then-all-gt-LONGEST c = omega (arith, c.pass_ranks.ensures.tallied.total, c.count_one.ensures.total, c.if-all-gt-LONGEST.true)

pub returns : goal.returns
returns c =
    let a = c.args in
    let q = c.pass_ranks.ensures in
    let W = c.pass_ranks.new.trail in
    let short : W.walk.bytes ≤ longest = omega (arith, c.if-all-gt-LONGEST.false) in
    let listed : Listed a.tables.now a.s a.t W.order.now W.choices.now W.walk.count =
    record { ordered = q.ordered short; found = q.found short a.s a.t (inl (root (goal.at.returns c).After-put).here); noted = q.noted short } in
    listed-as listed (search rules) (search rules)
