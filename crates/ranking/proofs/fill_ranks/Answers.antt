-- `ranking::fill_ranks` meets its contract: the ranks are cleared, the rows cut, the sets filled, and the rounds do the rest.
-- Assumes nothing.
use mathlib.Core.Path.{ap₂}
use Prim.Native.Nat.{◌*◌, ◌≤◌}
use native.Mathlib.Omega.{arith}
use borrow.Author.Rules.{rules}
use Rattle.simulation.specs.Limits.{most_states}
use Rattle.set.specs.Words.{words}
use Rattle.form.specs.Tables.{first_form, first_table, contract_table}
use Rattle.form.proofs.FormLaws.{limits}
use Rattle.form.proofs.Contract.{contract-few, contract-pairs}
use Rattle.fit.proofs.Trying.{none_tried}
use Rattle.ranking.proofs.Ends.{begun, refined_over, returned}
use Rattle.ranking.proofs.Zeros.{no_pairs}
use Rattle.ranking.proofs.fill_ranks.Goals as goal
use Rattle.ranking.proofs.fill_ranks.Goals.{After-width-q}

-- the states are few
few : (c : After-width-q) → (c.states-p.result ≤ most_states) × (c.width-q.result ≤ most_states)
few c =
    let l = c.requires.0.loaded in
    let tables = c.args.tables.now in
    (omega (arith, c.states-p.ensures, (limits (first_form tables) l.first).states-few), omega (arith, c.width-q.ensures, contract-few tables l))

pub overflow_mul-p : goal.overflow_mul-p
overflow_mul-p c =
    omega (arith, ap₂ ◌*◌ c.states-p.ensures c.width-q.ensures, contract-pairs c.args.tables.now c.requires.0.loaded)

pub clear_ranks-requires : goal.clear_ranks-requires
clear_ranks-requires c = omega (arith, ap₂ ◌*◌ c.states-p.ensures c.width-q.ensures, c.requires.0.ranks_room)

pub narrow-requires : goal.narrow-requires
narrow-requires c = let n = few (goal.at.narrow-requires c).After-width-q in (omega (arith, n.0, c.requires.0.rows_open.room), n.1)

pub fill_sets-requires : goal.fill_sets-requires
fill_sets-requires c = let none = no_pairs (most_states * words) in (c.requires.0.loaded, omega arith, omega arith, omega arith, none, none)

pub refine-requires : goal.refine-requires
refine-requires c =
    let a = c.args in
    let tables = a.tables.now in
    let q = c.requires.0 in
    let n = few (goal.at.refine-requires c).After-width-q in
    let known = c.fill_sets.ensures in
    let sets = c.new-sets.ensures in
    record {
      prepared = record {
        loaded = q.loaded;
        ranks_room = omega (arith, q.ranks_room);
        sets_known = record {
          first = rw sets.before known.first;
          second = rw sets.behind known.second;
          targets = rw sets.targets known.targets;
        };
        rows_room = omega (arith, q.rows_open.room);
        amounts_room = q.amounts_room;
        known = none_tried c.requires.1 c.requires.2;
      };
      after = begun (first_table tables) (contract_table tables) a.rows.now c.narrow.new.rows a.ranks.now c.clear_ranks.new.ranks q.rows_open c.states-p.ensures c.width-q.ensures
          n.0 n.1 c.narrow.ensures c.clear_ranks.ensures;
      none_lost = no_pairs (most_states * words);
    }

pub returns : goal.returns
returns c =
    returned (search rules) (search rules) (refined_over c.states-p.ensures c.width-q.ensures c.clear_ranks.ensures c.refine.ensures.0)
