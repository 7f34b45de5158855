-- `Trail::pass_pair` meets its contract. Assumes nothing.
use mathlib.Core.Path.{refl, ap, ◌∙◌}
use Prim.Native.Nat.{ℕ, ◌/◌}
use native.Mathlib.Omega.{arith}
use lib.ListN.{length-set, set}
use Rattle.set.specs.Words.{words}
use Rattle.form.specs.Tables.{first_form}
use Rattle.form.proofs.FormLaws.{limits}
use Rattle.counting.proofs.Pairs.{number_asked}
use Rattle.counting.proofs.Targets.{step-number}
use Rattle.passing.proofs.Passing.{PairChosen, pair_removed, here-lost, here-low, here-row, here-room, here-noted, step-choice, step_count, step_children, taken}
use Rattle.passing.proofs.Trail.pass_pair.Goals as goal
use Rattle.passing.proofs.Trail.pass_pair.Goals.{After-put}

-- the pair is no longer among those to be passed, beside the sets of its transition
chosen : (d : After-put) → let a = d.args in PairChosen a.tables.now a.self.now.todo.now a.s a.t d.choose-j.result d.choose-j.new.sets d.put.new.rows
chosen d =
    record {
      choice = d.choose-j.ensures.0;
      told = d.choose-j.ensures.1;
      words_room = omega (arith, d.requires.walking.given.sets_room, ap (λ (n : ℕ). n / words) d.choose-j.auto.sets);
      removed = pair_removed d.args.self.now.todo.now (here-row d.requires) d.remove-rest.result d.pairs.ensures d.remove-rest.ensures d.put.ensures;
    }

pub choose-j-requires : goal.choose-j-requires
choose-j-requires c =
    let g = c.requires.walking.given in
    (g.given.ranked, here-lost c.requires, c.requires.this_rank, g.sets_room, g.given.amounts_room)

pub pairs-requires : goal.pairs-requires
pairs-requires c = here-row c.requires

pub remove-rest-requires : goal.remove-rest-requires
remove-rest-requires c = (here-low c.requires).1

pub put-requires : goal.put-requires
put-requires c = here-row c.requires

pub number-p-requires : goal.number-p-requires
number-p-requires c = number_asked (here-lost c.requires) c.requires.walking.given.given.ranked.loaded

pub bounds-self-self : goal.bounds-self-self
bounds-self-self c = here-room c.requires

pub overflow_cast-self-2 : goal.overflow_cast-self-2
overflow_cast-self-2 c =
    record {
      fits = omega (
        arith,
        step-number (step-choice c.requires (chosen (goal.at.overflow_cast-self-2 c).After-put)),
        (limits (first_form c.args.tables.now) c.requires.walking.given.given.ranked.loaded.first).transitions-few,
      );
    }

pub bounds-self-p : goal.bounds-self-p
bounds-self-p c = omega (arith, here-noted c.requires, c.number-p.ensures.0)

pub hand_on-self-requires : goal.hand_on-self-requires
hand_on-self-requires c = step_count c.requires (chosen (goal.at.hand_on-self-requires c).After-put)

pub targets-targets-requires : goal.targets-targets-requires
targets-targets-requires c =
    step-number (step-choice c.requires (chosen (goal.at.targets-targets-requires c).After-put))

pub add_children-self-requires : goal.add_children-self-requires
add_children-self-requires c = step_children c.requires (chosen (goal.at.add_children-self-requires c).After-put) c.targets-targets.ensures

pub returns : goal.returns
returns c =
    let W = c.args.self.now in
    let e = c.number-p.ensures.0 in
    let d = chosen (goal.at.returns c).After-put in
    taken c.requires d c.targets-targets.ensures _ (ap (set W.order.now W.walk.count) e) (ap (λ (p : ℕ). set W.choices.now p c.choose-j.result) e) refl c.add_children-self.ensures c.hand_on-self.ensures
    (record {
      same_order = record { name = refl; size = length-set W.order.now W.walk.count _ };
      same_choices = record { name = refl; size = length-set W.choices.now _ _ };
      same_counts = record { name = refl; size = c.hand_on-self.auto.counts };
      same_todo = record { name = refl; size = c.add_children-self.auto.todo ∙ d.removed.same-todo };
      same_sets = record { name = refl; size = c.choose-j.auto.sets };
      same_amounts = record { name = refl; size = c.choose-j.auto.amounts };
    })
