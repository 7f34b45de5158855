-- `choice::other_targets` meets its contract: the targets passed are united. Assumes nothing.
use mathlib.Core.Path.{ap, ◌∙◌}
use mathlib.Core.List.{List}
use mathlib.Core.Bool.{not, ◌&&◌}
use Prim.Native.Nat.{ℕ}
use native.Mathlib.Omega.{arith}
use lib.Dec.{eqb}
use lib.ListN.{length, get_or}
use Rattle.simulation.specs.Sum.{any}
use Rattle.form.specs.Tables.{second_form, second_step}
use Rattle.word.specs.Mask.{Test, member, up_to, except}
use Rattle.set.specs.Words.{mask}
use Rattle.set.proofs.Walks.{begun}
use Rattle.relate.proofs.Places.{few_places, targets-count, target_small}
use Rattle.choice.proofs.Choosing.{Uniting, uniting_start, uniting_next, uniting_end, outside_names, outside-any}
use Rattle.choice.proofs.other_targets.Goals as goal

pub below-requires : goal.below-requires
below-requires c =
    let f = second_form c.args.tables.now in
    let k = c.args.k in
    let l = c.requires.0.second in
    omega (arith, few_places f k l c.requires.1, targets-count f k l c.requires.1 _ c.targets-targets.ensures)

pub loop-j-init : goal.loop-j-init
loop-j-init c =
    let ts = c.targets-targets.result.now in
    let named = member (mask c.args.named) in
    begun (λ (n : ℕ). Uniting (λ j u. eqb u (get_or ts j 0)) (except (up_to (length ts)) named) n (mask c.empty-states.result)) c.into_iter-j-iterator.ensures.into_iter_gives
    (uniting_start (c.difference-j-items.ensures ∙ ap (λ (X : Test). except X named) c.below.ensures) c.empty-states.ensures)

pub insert-states-requires : goal.insert-states-requires
insert-states-requires c =
    let v = c.loop-j.invariant in
    target_small (second_form c.args.tables.now) c.args.k c.requires.0.second c.requires.1 _ c.targets-targets.ensures _
    (outside_names _ (member (mask c.args.named)) _ (v.part _ c.in-Some.ensures.steps.lowest.here))

pub loop-j-preserved : goal.loop-j-preserved
loop-j-preserved c =
    let s = c.in-Some.ensures.steps in uniting_next c.loop-j.invariant s.lowest s.left c.insert-states.ensures

pub returns : goal.returns
returns c u =
    let found = c.targets-targets in
    let tables = c.args.tables.now in
    let k = c.args.k in
    let named = member (mask c.args.named) in
    let ts = found.result.now in
    uniting_end (length ts) c.in-None.ensures.steps.0 (outside_names _ _) c.loop-j.invariant u
    ∙ outside-any _ _ ts u
    ∙ ap (λ (p : ℕ). any p (λ i. eqb (get_or ts i 0) u && not (named i))) (targets-count (second_form tables) k c.requires.0.second c.requires.1 _ found.ensures)
    ∙ ap (λ (ts : List ℕ). any (length (second_step tables k).entries) (λ i. eqb (get_or ts i 0) u && not (named i))) found.ensures
