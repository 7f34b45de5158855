-- `transport::maximum_flow` meets its contract. Assumes nothing.
use mathlib.Core.Path.{◌≡◌, sym, ◌∙◌, subst}
use mathlib.Core.List.{List}
use Prim.Native.Nat.{ℕ, ◌≤◌}
use native.Mathlib.Omega.{arith}
use borrow.Author.Rules.{rules}
use lib.Seq.{length-take-le}
use Rattle.std.specs.Borrow.{MutBor}
use Rattle.relation.specs.Rows.{row_of, height}
use Rattle.relation.proofs.Relations.{row-none}
use Rattle.set.proofs.Sets.{mask_lt}
use Rattle.simulation.specs.Limits.{most_states}
use Rattle.matrix.specs.Held.{held}
use Rattle.transport.proofs.Lending.{StartOf, fill_ready, improve_ready, answers}
use Rattle.transport.proofs.maximum_flow.Goals as goal
use Rattle.transport.proofs.maximum_flow.Goals.{After-begin}

start : (c : After-begin) → let a = c.args in StartOf a.m.now a.n.now a.rel.now a.amounts.now (held c.begin.new.flow)
start c =
    let s = c.begin.ensures.same_lists in
    record {
      given = c.requires;
      begun = c.begin.ensures.begun;
      same_length = s.amounts.same_length;
      rows = s.supply.same_length ∙ length-take-le _ _ (omega arith);
      columns = s.demand.same_length ∙ length-take-le _ _ (omega arith);
    }

pub fill-free-requires : goal.fill-free-requires
fill-free-requires c =
    let t = c.begin.ensures.same_senders in
    fill_ready (start (goal.at.fill-free-requires c).After-begin)
    (subst (λ (x : MutBor (List ℕ)). most_states ≤ height x.now) (sym t) (omega arith))
    (λ j. subst (λ (x : MutBor (List ℕ)). row_of x.now j ≡ 0) (sym t) (row-none j))

pub improve-requires : goal.improve-requires
improve-requires c = improve_ready (start (goal.at.improve-requires c).After-begin) c.fill-free.ensures.filled

-- the amounts of the flow are those that were lent
pub returns : goal.returns
returns c =
    let name = c.improve.ensures.same_lists.amounts.name ∙ c.fill-free.ensures.same_lists.amounts.name ∙ c.begin.ensures.same_lists.amounts.name in
    let last : c.amounts-1.given.0 ≡ c.improve.new.flow.amounts.now = search rules in
    rw last (answers (start (goal.at.returns c).After-begin) c.fill-free.ensures.filled c.improve.ensures.grown (mask_lt c.improve.result.cut))
