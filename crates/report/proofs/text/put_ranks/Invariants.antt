-- `report::text::put_ranks`: the ranks before the index are in place. Assumes nothing.
use Rattle.std.proofs.Common.{◌≡◌, take}
use Rattle.std.specs.List.{flat_map}
use Rattle.digits.specs.Appending.{append}
use Rattle.digits.specs.Digits.{labelled}
use Rattle.report.specs.Text.{space}
use Rattle.report.proofs.text.put_ranks.Given as goal

abbrev pub invariant-loop-rank : goal.invariant-loop-rank
invariant-loop-rank l = l.text ≡ append l.initial.text (flat_map (labelled space) (take l.rank-index l.ranks))
