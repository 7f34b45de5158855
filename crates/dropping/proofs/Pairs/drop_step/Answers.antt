-- `dropping::Pairs::drop_step` meets its contract. Assumes nothing.
use mathlib.Core.Path.{◌≡◌, sym, ap, ◌∙◌, subst}
use Prim.Native.Nat.{ℕ, ◌<◌}
use Rattle.simulation.specs.Limits.{most_states}
use Rattle.simulation.specs.Sum.{all_of}
use Rattle.simulation.specs.Complete.{lists}
use Rattle.word.specs.Mask.{member}
use Rattle.set.specs.Words.{mask}
use Rattle.relation.specs.Related.{holds}
use Rattle.dropping.proofs.Answers.{code-listed, target_places, gone-listed, gone-added}
use Rattle.dropping.proofs.Pairs.drop_step.Goals as goal
use Rattle.dropping.proofs.Pairs.drop_step.Goals.{After-lists}

pub drop_listed-requires : goal.drop_listed-requires
drop_listed-requires c = c.requires

-- whether the code is listed, as it was told
told : (c : After-lists) → let a = c.args in code-listed a.self.now.tables.now a.j ≡ c.lists.result
told c = sym (c.lists.ensures ∙ ap (lists _) c.code-code.ensures)

pub returns-then-lists : goal.returns-then-lists
returns-then-lists c =
    let r = c.drop_listed in
    let a = c.args in
    (gone-listed a.self.now.tables.now a.self.now.rows.now a.j (mask a.near) (told (goal.at.returns-then-lists c).After-lists ∙ c.if-lists.true) r.ensures.0, r.ensures.1)

pub common-requires : goal.common-requires
common-requires c = target_places c.args.j c.requires.0 c.requires.2 c.targets-from.ensures

pub returns : goal.returns
returns c =
    let a = c.args in (
      gone-added a.self.now.tables.now a.self.now.rows.now a.j (mask a.near) c.requires.0.loaded c.requires.2 (told (goal.at.returns c).After-lists ∙ c.if-lists.false) c.requires.3
          (subst (λ ts. (t : ℕ) → t < most_states → member (mask c.common.result) t ≡ all_of (λ s. holds a.self.now.rows.now s t) ts) c.targets-from.ensures c.common.ensures)
          c.difference.ensures,
      c.requires.1,
    )
