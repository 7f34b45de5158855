-- `write::begin_transition` meets its contract. Assumes nothing.
use Rattle.form.specs.declared.tables.Tables.{Tables}
use mathlib.Core.Path.{◌≡◌, sym, ap, ◌∙◌, subst}
use mathlib.Core.List.{List}
use Prim.Native.Nat.{ℕ}
use native.Mathlib.Omega.{arith}
use lib.ListN.{get_or}
use Rattle.simulation.specs.Table.{Transition}
use Rattle.buffer.specs.Buffer.{over}
use Rattle.choice.specs.Choice.{Choice}
use Rattle.choice.proofs.Choices.{choice-number, pair_place}
use Rattle.counting.proofs.Pairs.{number_asked}
use Rattle.tree.specs.Begin.{head_bytes}
use Rattle.tree.proofs.write.begin_transition.Goals as goal

-- the choice noted at the pair's number
chosen_at : {tables : Tables} {s t p q : ℕ} (choices : List ℕ) → p ≡ q → Choice tables s t (get_or choices q 0) → Choice tables s t (get_or choices p 0)
chosen_at {tables} {s} {t} choices e w = subst (λ (j : ℕ). Choice tables s t j) (sym (ap (λ (n : ℕ). get_or choices n 0) e)) w

pub number-p-requires : goal.number-p-requires
number-p-requires c = let p = c.requires in number_asked p.lost p.ranked.loaded

pub bounds-ranks-p : goal.bounds-ranks-p
bounds-ranks-p c =
    let p = c.requires in
    omega (arith, pair_place p.ranked p.lost.left p.lost.right, c.number-p.ensures.0)

pub find_sets-requires : goal.find_sets-requires
find_sets-requires c =
    let p = c.requires in
    let a = c.args in
    let e = c.number-p.ensures.0 in
    let w = chosen_at a.src.now.choices.now e p.choice in (
      p.ranked,
      p.lost,
      ap (λ (n : ℕ). get_or a.src.now.ranks.now n 0) e ∙ p.ranked.ranked a.s a.t p.lost.left p.lost.right,
      w.low,
      w.high,
      p.words,
      p.amounts_room,
    )

pub put_head-requires : goal.put_head-requires
put_head-requires c =
    let p = c.requires in
    let w = chosen_at c.args.src.now.choices.now c.number-p.ensures.0 p.choice in
    (p.ranked.loaded, choice-number c.args.src.now.tables.now p.ranked.loaded.first c.args.s c.args.t _ p.lost.left w, p.room)

pub returns : goal.returns
returns c =
    let w = chosen_at c.args.src.now.choices.now c.number-p.ensures.0 c.requires.choice in
    record {
      choice = w;
      sets = c.find_sets.ensures.found w;
      head = c.put_head.ensures ∙ ap (λ (m : Transition). over (head_bytes m) c.args.buf.now) w.is;
    }
