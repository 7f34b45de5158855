-- `cut::is_cut` meets its contract. Assumes nothing.
use mathlib.Core.Path.{sym}
use mathlib.Core.Bool.{true≢false}
use Rattle.set.proofs.Sets.{is_none}
use Rattle.cut.proofs.QuickLaws.{settled_none, settled_alike}
use Rattle.cut.proofs.is_cut.Goals as goal

pub returns-then-is_empty : goal.returns-then-is_empty
returns-then-is_empty c = λ _. settled_none _ _ _ _ (is_none c.is_empty.ensures c.if-is_empty.true)

pub returns-then-not-is_empty : goal.returns-then-not-is_empty
returns-then-not-is_empty c = λ e. absurd (true≢false (sym e))

pub returns : goal.returns
returns c =
    let none = is_none c.is_empty-2.ensures c.if-not-is_empty.false in
    λ e. settled_alike _ _ _ _ _ _ _ c.intersection.ensures none c.below.ensures c.difference.ensures (is_none c.is_empty-3.ensures e)
