-- `choice::join_sets` meets its contract: the sets of the members passed are joined. Assumes nothing.
use mathlib.Core.List.{List}
use mathlib.Core.Path.{sym, ap, ◌∙◌, subst}
use Prim.Native.Nat.{ℕ}
use Rattle.word.specs.Mask.{member, either}
use Rattle.set.specs.Words.{mask}
use Rattle.choice.proofs.Choosing.{Joining, joining_next, joining_end}
use Rattle.choice.proofs.join_sets.Goals as goal
use Rattle.choice.proofs.join_sets.Goals.{In-Some}

pub loop-i-preserved : goal.loop-i-preserved
loop-i-preserved c =
    let s = c.in-Some.ensures.steps in
    let v = c.loop-i.invariant in
    let more = mask c.args.more in
    subst (λ (l : List ℕ). Joining (mask c.args.named) more c.args.sets.now l (mask c.next.new.self.left)) (sym c.put.ensures)
    (joining_next c.union-set.result v c.requires s.lowest s.left (c.union-set.ensures ∙ ap (λ (n : ℕ). either (member more) (member n)) c.get.ensures))

pub returns : goal.returns
returns c = joining_end c.in-None.ensures.steps.0 c.loop-i.invariant
