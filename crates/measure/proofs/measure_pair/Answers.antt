-- `measure::measure_pair` meets its contract. Assumes nothing.
use mathlib.Core.Path.{◌∙◌}
use Rattle.choice.specs.Choice.{SetsChosen}
use Rattle.counting.proofs.Pairs.{rank_asked}
use Rattle.counting.proofs.Targets.{step-number}
use Rattle.measure.proofs.Measuring.{pair_choice, pair_children, pair-least}
use Rattle.measure.proofs.measure_pair.Goals as goal
use Rattle.measure.proofs.measure_pair.Goals.{After-find_sets}

-- the sets that were found are those of the pair's transition
found : (c : After-find_sets) → let a = c.args in SetsChosen a.tables.now a.s a.t c.find_sets.new.sets
found c = c.find_sets.ensures.found c.requires.1

pub rank_at-r-requires : goal.rank_at-r-requires
rank_at-r-requires c = let p = c.requires.0 in rank_asked p.lost p.given.ranked

pub find_sets-requires : goal.find_sets-requires
find_sets-requires c =
    let p = c.requires.0 in
    let w = c.requires.1 in (
      p.given.ranked,
      p.lost,
      c.rank_at-r.ensures ∙ p.given.ranked.ranked c.args.s c.args.t p.lost.left p.lost.right,
      w.low,
      w.high,
      p.given.words,
      p.given.amounts_room,
    )

pub targets-requires : goal.targets-requires
targets-requires c =
    step-number (pair_choice c.requires.0 c.requires.1)

pub children_length-len-requires : goal.children_length-len-requires
children_length-len-requires c =
    pair_children c.requires.0 c.requires.1 c.targets.ensures (found (goal.at.children_length-len-requires c).After-find_sets) c.find_sets.auto.sets

pub returns : goal.returns
returns c =
    c.min.ensures ∙ pair-least c.requires.0 c.requires.1 c.targets.ensures (found (goal.at.returns c).After-find_sets) _ c.children_length-len.ensures.0
