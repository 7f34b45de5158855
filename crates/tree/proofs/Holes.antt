-- What is written of a transition, turn by turn: the part that each turn leaves; and what is written of a tree.
-- Assumes nothing.
use mathlib.Core.Path.{◌≡◌, sym, ap, ap₂, ◌∙◌, subst}
use mathlib.Core.List.{List, ◌∷◌, ◌++◌}
use Prim.Native.Nat.{ℕ, suc, ◌+◌, ◌-◌, ◌*◌, ◌^◌, ◌≤◌, ◌<◌}
use native.Mathlib.Omega.{arith}
use lib.ListN.{length, get_or, drop, set, length-set}
use lib.Seq.{ext_get_or, take-suc-set, drop-drop, drop-set-lt}
use Rattle.std.specs.Prelude.{Option, Some, None, IfSome}
use Rattle.simulation.specs.Limits.{most_states}
use Rattle.simulation.specs.Tree.{tree, node_bytes}
use Rattle.simulation.specs.Length.{pair_length}
use Rattle.form.specs.Tables.{first_form, first_table, contract_table, BothLoaded}
use Rattle.form.proofs.FormLaws.{sound}
use Rattle.set.specs.Words.{words}
use Rattle.buffer.specs.Buffer.{Filled}
use Rattle.choice.specs.Choice.{Lost}
use Rattle.counting.specs.Pair.{number}
use Rattle.counting.specs.Count.{longest}
use Rattle.tree.specs.declared.write.Rest.{Rest}
use Rattle.tree.specs.declared.write.Source.{Source}
use Rattle.tree.specs.declared.write.Step.{Step}
use Rattle.tree.specs.Parts.{words_for, stack_words, offset, step_of, PartLeft, Left, whole, but, StepGiven, StepWritten, Around, TreeGiven}
use Rattle.tree.proofs.Lengths.{step-size, tree-parts}
use Rattle.tree.proofs.Places.{piece, placed, piece_length, placed_length}
use Rattle.tree.proofs.Slots.{Slot, slot_lent, slot_kept, left_inner, offset_fits}
use Rattle.tree.proofs.Nodes.{pair_lost, pair_size, pair_asked, left-all, kept-all, StepLoop, loop_begins, loop-next}

-- ---- the loop down the parts that are left

-- where the loop stands: all but the part in hand is written
pub record HoleLoop (src : Source) (step : Step) (amounts stack buf : List ℕ) (rest : Option Rest) : Type 0 where
  pub loop : StepLoop src step amounts stack buf
  pub held : Left src (step_of src step.s step.t) (length (step_of src step.s step.t)) buf rest

-- how much is left, and one for a part
abbrev pub size_left : Option Rest → ℕ
size_left None = 0
size_left (Some r) = suc r.len

-- the part that is left, if one is; or all is written
the-part : {src : Source} {total now : List ℕ} {n : ℕ} {part : Rest} → Left src total n now (Some part) → PartLeft src total n now part
the-part (but p) = p

all-written : {src : Source} {total now : List ℕ} {n : ℕ} → Left src total n now None → (k : ℕ) → k < n → get_or now k 0 ≡ get_or total k 0
all-written (whole w) = w

pub hole_begins : {src : Source} {step : Step} {amounts stack buf : List ℕ} → StepGiven src step amounts stack buf
    → length buf ≤ step.limit → length buf < 2 ^ 64
    → HoleLoop src step amounts stack buf (Some (record { s = step.s; t = step.t; at = 0; len = length buf }))
hole_begins {buf = buf} g short small = record { loop = loop_begins g short small kept-all; held = left-all g.measured g.size buf }

module _ {src : Source} {step : Step} {amounts stack buf : List ℕ} {rest : Option Rest} (l : HoleLoop src step amounts stack buf rest) where
  abbrev total : List ℕ
  total = step_of src step.s step.t

  pub hole_ends : rest ≡ None → buf ≡ total
  hole_ends z =
      ext_get_or 0 buf total l.loop.call.size
      (λ k lt. all-written (subst (λ (r : Option Rest). Left src total (length total) buf r) z l.held) k (omega (arith, l.loop.call.size)))

  module _ {part : Rest} (some : rest ≡ Some part) where
    in_hand : PartLeft src total (length total) buf part
    in_hand = the-part (subst (λ (r : Option Rest). Left src total (length total) buf r) some l.held)

    pub hole_room : part.at + part.len ≤ length buf
    hole_room = omega (arith, in_hand.within, l.loop.call.size)

    hole_slot : Slot total part.at (part.at + part.len) buf (step_of src part.s part.t)
    hole_slot = record { ordered = omega arith; room = hole_room; part = in_hand.part; size = omega (arith, in_hand.size) }

    pub hole_step : StepGiven src (record { s = part.s; t = part.t; limit = step.limit }) amounts stack (piece part.at (part.at + part.len) buf)
    hole_step = record { given = l.loop.call.given; depth = l.loop.call.depth; measured = in_hand.measured; size = slot_lent hole_slot }

    pub hole_short : length (piece part.at (part.at + part.len) buf) ≤ step.limit
    hole_short = omega (arith, slot_lent hole_slot, hole_slot.size, hole_room, l.loop.short)

    module _ {half : ℕ} {hole : Option Rest} {zs : List ℕ} (w : Around src (step_of src part.s part.t) half zs hole) where
      pub hole_offset : IfSome hole (λ (r : Rest). part.at + r.at < 2 ^ 64)
      hole_offset = offset_fits part.at w.left (omega (arith, hole_slot.size, hole_room, l.loop.small))

      module _ {rest' : Option Rest} (moved : rest' ≡ offset hole part.at) where
        pub hole_less : size_left rest' < size_left rest
        hole_less = omega (arith, less hole w.less, in_hand.size, ap size_left moved, ap size_left some)
          where
            less : (o : Option Rest) → IfSome o (λ (r : Rest). r.len < length (step_of src part.s part.t)) → size_left (offset o part.at) < suc (length (step_of src part.s part.t))
            less None _ = omega arith
            less (Some r) h = omega arith

        pub hole_next : (same : length zs ≡ length (piece part.at (part.at + part.len) buf)) {amounts' stack' : List ℕ}
            → length amounts' ≡ length amounts → length stack' ≡ length stack
            → HoleLoop src step amounts' stack' (placed part.at (part.at + part.len) buf zs) rest'
        hole_next same ea es =
            record {
              loop = loop-next l.loop (record { same-amounts = ea; same_stack = es; same_buf = slot_kept hole_slot zs same });
              held =
                  subst (λ (r : Option Rest). Left src total (length total) (placed part.at (part.at + part.len) buf zs) r) (sym moved)
                  (left_inner hole_slot zs same (length total) in_hand.within in_hand.written w.left);
            }

-- ---- a tree

-- no limit of a tree needs more levels than 16
words-enough : words_for 16 + 2 * words * most_states ≤ stack_words
unfolding words_for
words-enough = omega arith

module _ {src : Source} {s t : ℕ} {amounts buf : List ℕ} (g : TreeGiven src s t amounts buf) where
  root-lost : Lost src.tables.now s t
  root-lost = pair_lost g.given g.measured

  root-size : length (step_of src s t) ≡ pair_length (first_table src.tables.now) (contract_table src.tables.now) s t
  root-size =
      step-size (first_table src.tables.now) (contract_table src.tables.now) (sound (first_form src.tables.now) g.given.ranked.loaded.first) s root-lost.left t root-lost.right root-lost.fell

  pub root_asked : BothLoaded src.tables.now × (s < most_states) × (t < most_states) × (number src.tables.now s t < length src.lengths.now)
  root_asked = pair_asked g.given g.measured

  module _ (r : ℕ) (er : r ≡ get_or src.lengths.now (number src.tables.now s t) 0) where
    root-r : r ≡ length (step_of src s t)
    root-r = er ∙ pair_size g.given g.measured

    pub root-short : 1 + r ≤ longest
    root-short = omega (arith, root-r, root-size, g.short)

    root-room : 1 + r ≤ length buf
    root-room = omega (arith, root-r, root-size, g.room)

    module _ (b : ℕ) where
      pub set_room : 1 + r ≤ length (set buf 0 b)
      set_room = omega (arith, root-room, length-set buf 0 b)

      root_piece : length (piece 1 (1 + r) (set buf 0 b)) ≡ (1 + r) - 1
      root_piece = piece_length 1 (1 + r) (set buf 0 b) (omega arith) set_room

      abbrev root : Step
      root = record { s = s; t = t; limit = longest }

      pub root-step : (stack : List ℕ) → stack_words ≤ length stack → StepGiven src root amounts stack (piece 1 (1 + r) (set buf 0 b))
      root-step stack room =
          record {
            given = g.given;
            depth = record { levels = 16; deep = omega arith; words = omega (arith, words-enough) };
            measured = g.measured;
            size = omega (arith, root_piece, root-r);
          }

      module _ {rest : Option Rest} {ys : List ℕ} (w : StepWritten src root rest (piece 1 (1 + r) (set buf 0 b)) ys)
          (same : length ys ≡ length (piece 1 (1 + r) (set buf 0 b))) where
        pub root_kept : length (placed 1 (1 + r) (set buf 0 b) ys) ≡ length buf
        root_kept = placed_length 1 (1 + r) (set buf 0 b) (omega arith) set_room ys (same ∙ root_piece) ∙ length-set buf 0 b

        pub root-filled : b ≡ 1 → Filled (node_bytes (tree (first_table src.tables.now) (contract_table src.tables.now) s t)) (1 + r) buf (placed 1 (1 + r) (set buf 0 b) ys)
        root-filled eb =
            let parts = tree-parts (first_table src.tables.now) (contract_table src.tables.now) (sound (first_form src.tables.now) g.given.ranked.loaded.first) s root-lost.left t root-lost.right root-lost.fell in
            let e : length (node_bytes (tree (first_table src.tables.now) (contract_table src.tables.now) s t)) ≡ 1 + r = omega (arith, ap length parts, root-r) in
            let q = (w.short (omega (arith, root_piece, root-short))).1 in
            let k : 1 + ((1 + r) - 1) ≡ 1 + r = omega arith in
            record {
              count = sym e;
              bytes =
                  ap₂ (λ (l m : List ℕ). l ++ (m ++ drop ((1 + r) - 1) (drop 1 (set buf 0 b)))) (take-suc-set buf 0 b (omega (arith, root-room))) q
                  ∙ ap (λ (l : List ℕ). b ∷ (step_of src s t ++ l))
                  (drop-drop ((1 + r) - 1) 1 (set buf 0 b) ∙ drop-set-lt (1 + ((1 + r) - 1)) buf 0 b (omega arith) ∙ ap (λ (i : ℕ). drop i buf) (k ∙ sym e))
                  ∙ ap (λ (i : ℕ). i ∷ (step_of src s t ++ drop (length (node_bytes (tree (first_table src.tables.now) (contract_table src.tables.now) s t))) buf)) eb
                  ∙ ap (λ (l : List ℕ). l ++ drop (length (node_bytes (tree (first_table src.tables.now) (contract_table src.tables.now) s t))) buf) (sym parts);
            }
