-- `total_weight` meets its contract: a total is the sum of the list. Assumes nothing.
use mathlib.Core.Path.{◌≡◌, sym, ◌∙◌}
use Rattle.std.proofs.Common.{rules, sum}
use Rattle.greedy.proofs.StartLaws.{total_sum}
use Rattle.greedy.proofs.total_weight.Goals as goal

pub returns : goal.returns
returns c =
    let ws = c.args.weights.now in
    let e : c.sum.result ≡ sum ws = search rules in
    e ∙ sym (total_sum ws)
