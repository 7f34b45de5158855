-- What is written of a transition that is not longer than the limit, child by child: all but a part longer than half the limit.
-- Assumes nothing.
use mathlib.Core.Path.{◌≡◌, sym, ap, ap₂, ◌∙◌, subst}
use mathlib.Core.List.{List, [], ◌++◌}
use Prim.Native.Nat.{ℕ, zero, suc, ◌+◌, ◌-◌, ◌*◌, ◌/◌, ◌^◌, ◌≤◌, ◌<◌}
use native.Mathlib.Nat.{pow-zero, pow-suc, suc-mul, mul-le-mul_right}
use native.Mathlib.Omega.{arith}
use lib.Dec.{T}
use lib.ListN.{length, get_or, take, drop, length-append, length-drop, get_or-append}
use lib.Seq.{get_or-take, length-take-le}
use Rattle.std.specs.Prelude.{Option, None, IfSome}
use Rattle.std.specs.Option.{option_or}
use Rattle.simulation.specs.Limits.{most_states}
use Rattle.simulation.specs.Table.{Transition, Table, weights, target_at, states_of, transition}
use Rattle.simulation.specs.Round.{pairs, rank}
use Rattle.simulation.specs.Tree.{chosen, set_of, own_node, node_bytes}
use Rattle.simulation.specs.Length.{head_length}
use Rattle.simulation.proofs.Finite.Sums.{sum_ext, when-same}
use Rattle.simulation.proofs.Simulation.Ranks.{rank_law}
use Rattle.simulation.proofs.Trees.Choice.{RanksUpTo, chosen_law, chosen-target}
use Rattle.simulation.proofs.Trees.OwnTree.{node_fuel}
use Rattle.form.specs.Form.{transitions_of}
use Rattle.form.specs.Tables.{first_form, first_table, contract_table, first_step}
use Rattle.form.proofs.FormLaws.{limits, sound, weights-length, limited_of}
use Rattle.word.specs.Mask.{Test, member}
use Rattle.set.specs.Words.{words, mask}
use Rattle.relation.specs.Rows.{row_of}
use Rattle.set.specs.declared.Set.{Set}
use Rattle.set.proofs.Words.{number_ext}
use Rattle.buffer.specs.Buffer.{over}
use Rattle.buffer.proofs.Buffer.{part-from, back, part-all}
use Rattle.choice.specs.Choice.{Lost, Choice, SetsChosen}
use Rattle.choice.proofs.Choices.{choice-number, below-lost}
use Rattle.measure.specs.Lengths.{set_length, SumGiven, Measured}
use Rattle.tree.specs.declared.write.Node.{Node}
use Rattle.tree.specs.declared.write.Rest.{Rest}
use Rattle.tree.specs.declared.write.Source.{Source}
use Rattle.tree.specs.declared.write.Step.{Step}
use Rattle.tree.specs.Begin.{head_bytes, entry_bytes, BeginGiven, TransitionBegun}
use Rattle.tree.specs.Parts.{At, words_for, offset, Depth, node_of, step_of, StepGiven, NodeGiven, Around}
use Rattle.tree.proofs.Bytes.{children_from, child-at, no_children, step_is}
use Rattle.tree.proofs.Lengths.{fallen-set, node_size}
use Rattle.tree.proofs.Places.{at_self, at-is, at_front, at_back, piece, placed}
use Rattle.tree.proofs.Slots.{Slot, slot_lent, slot_kept, PartLoop, around_done, stand_begins, stand_whole, stand_next, stand_ends, offset_fits}
use Rattle.tree.proofs.Nodes.{pair_lost, pair_long, pair_noted, LengthsKept, StepLoop, loop_begins, loop-next}

-- ---- halves and levels

half_law : (n : ℕ) → n ≤ 2 * (n / 2) + 1
half_law n = omega arith

half-deep : (levels limit : ℕ) → 2 ≤ limit → limit < 2 ^ levels → limit / 2 < 2 ^ (levels - 1)
half-deep zero limit some d = absurd (omega (arith, pow-zero 2))
half-deep (suc l) limit some d =
    let e : l ≡ suc l - 1 = omega arith in
    subst (λ (k : ℕ). limit / 2 < 2 ^ k) e (omega (arith, pow-suc 2 l))

-- a transition leaves the words for the calls below it
words-next : (levels limit n : ℕ) → n ≤ most_states → head_length + 4 * n ≤ limit → limit < 2 ^ levels → words * n + words_for (levels - 1) ≤ words_for levels
unfolding words_for
words-next zero limit n few long d = absurd (omega (arith, pow-zero 2))
words-next (suc l) limit n few long d =
    let e : suc l - 1 ≡ l = omega arith in
    omega (arith, ap words_for e)

-- the rows of the stack below the part that is lent stay
kept-below : (n i : ℕ) (l ys : List ℕ) → words * n ≤ length l → i < n → row_of (back (words * n) l ys) i ≡ row_of l i
unfolding row_of
kept-below n i l ys le lt =
    number_ext words (λ k. get_or (back (words * n) l ys) (i * words + k) 0) (λ k. get_or l (i * words + k) 0)
    (λ k b. let c : i * words + k < words * n = omega arith in
    get_or-append (take (words * n) l) _ 0 (i * words + k) (omega (arith, length-take-le (words * n) l le)) ∙ get_or-take (words * n) l (i * words + k) 0 c)

-- ---- the loop over the children

module _ (src : Source) where
  -- the transition of a pair
  abbrev pub chosen_of : Step → Transition
  chosen_of step = chosen (first_table src.tables.now) (contract_table src.tables.now) step.s step.t

  -- the bytes of the children from place i on
  abbrev pub children_left : Step → ℕ → List ℕ
  children_left step i =
      children_from (own_node (first_table src.tables.now) (contract_table src.tables.now) (pairs (first_table src.tables.now) (contract_table src.tables.now) - 1))
      (set_of (first_table src.tables.now) (contract_table src.tables.now) step.s step.t) i (chosen_of step).entries

  -- where the loop stands
  pub record AroundLoop (step : Step) (j n : ℕ) (amounts stack buf : List ℕ) (rest : Option Rest) (at i : ℕ) : Type 0 where
    pub loop : StepLoop src step amounts stack buf
    pub choice : Choice src.tables.now step.s step.t j
    pub width : n ≡ length (chosen_of step).entries
    pub sets : SetsChosen src.tables.now step.s step.t stack
    pub place : At (step_of src step.s step.t) at (children_left step i)
    pub ends : at + length (children_left step i) ≡ length (step_of src step.s step.t)
    pub stands : PartLoop src (step_of src step.s step.t) (step.limit / 2) at buf rest

module _ {src : Source} {step : Step} {amounts stack buf : List ℕ} (g : StepGiven src step amounts stack buf) where
  step-parts : step_of src step.s step.t ≡ head_bytes (chosen_of src step) ++ children_left src step 0
  step-parts =
      step_is (first_table src.tables.now) (contract_table src.tables.now) (own_node (first_table src.tables.now) (contract_table src.tables.now) (pairs (first_table src.tables.now) (contract_table src.tables.now) - 1)) step.s step.t

  pub number-known : {j : ℕ} → Choice src.tables.now step.s step.t j → j < transitions_of (first_form src.tables.now)
  number-known {j} = choice-number src.tables.now g.given.ranked.loaded.first step.s step.t j (pair_lost g.given g.measured).left

  step-few : length (chosen_of src step).entries ≤ most_states
  step-few =
      let M = first_table src.tables.now in
      let N = contract_table src.tables.now in
      let p = pair_lost g.given g.measured in
      let c = chosen_law M N step.s step.t p.left p.right p.fell in
      subst (λ (m : Transition). length m.entries ≤ most_states) c.same
      (omega (arith, (limited_of (first_form src.tables.now) g.given.ranked.loaded.first step.s c.place c.here).few, weights-length (transition M step.s c.place)))

  pub begin_given : BeginGiven src step.s step.t amounts stack buf
  begin_given =
      record {
        ranked = g.given.ranked;
        lost = pair_lost g.given g.measured;
        noted = pair_noted g.given g.measured;
        choice = g.measured.choice step.s step.t g.measured.here;
        amounts_room = g.given.amounts_room;
        words = omega (arith, g.depth.words);
        room = omega (arith, pair_long g.given g.measured, g.size);
      }

  module _ (short : length buf ≤ step.limit) where
    -- the limit has room for the head, and four bytes for each child
    pub step-long : head_length + 4 * length (chosen_of src step).entries ≤ step.limit
    step-long = omega (arith, pair_long g.given g.measured, g.size)

    -- past the sets of the n children the stack has the words for the calls below
    module _ {n : ℕ} (width : n ≡ length (chosen_of src step).entries) where
      room-below : words * n + (words_for (g.depth.levels - 1) + 2 * words * most_states) ≤ length stack
      room-below = omega (arith, words-next g.depth.levels step.limit _ step-few step-long g.depth.deep, g.depth.words)

      depth_below : Depth (step.limit / 2) (part-from (words * n) stack)
      depth_below =
          record {
            levels = g.depth.levels - 1;
            deep = half-deep g.depth.levels step.limit (omega (arith, step-long)) g.depth.deep;
            words = omega (arith, ap length (part-all (words * n) stack), length-drop (words * n) stack, room-below);
          }

    -- the head is written, and the sets are on the stack
    pub around_begins : {j : ℕ} {amounts₁ stack₁ buf₁ : List ℕ} → TransitionBegun src.tables.now step.s step.t j stack₁ buf buf₁ → (n : ℕ) → n ≡ length (first_step src.tables.now j).entries
        → LengthsKept amounts stack buf amounts₁ stack₁ buf₁ → length buf < 2 ^ 64
        → AroundLoop src step j n amounts₁ stack₁ buf₁ None head_length 0
    around_begins b n en k small =
        let head = head_bytes (chosen_of src step) in
        let children = children_left src step 0 in
        record {
          loop = loop_begins g short small k;
          choice = b.choice;
          width = en ∙ ap (λ (m : Transition). length m.entries) b.choice.is;
          sets = b.sets;
          place = at_back head children (at-is step-parts (at_self (step_of src step.s step.t)));
          ends = omega (arith, ap length step-parts);
          stands = stand_begins (omega arith) (λ k lt. ap (λ (l : List ℕ). get_or l k 0) b.head
              ∙ get_or-append head (drop head_length buf) 0 k lt
              ∙ sym (ap (λ (l : List ℕ). get_or l k 0) step-parts ∙ get_or-append head children 0 k lt));
        }

module _ {src : Source} {step : Step} {j n : ℕ} {amounts stack buf : List ℕ} {rest : Option Rest} {at i : ℕ}
    (l : AroundLoop src step j n amounts stack buf rest at i) where
  abbrev M : Table
  M = first_table src.tables.now

  abbrev N : Table
  N = contract_table src.tables.now

  abbrev m : Transition
  m = chosen_of src step

  abbrev total : List ℕ
  total = step_of src step.s step.t

  abbrev g : StepGiven src step amounts stack buf
  g = l.loop.call

  lost : Lost src.tables.now step.s step.t
  lost = pair_lost g.given g.measured

  once : length buf ≤ 2 * (step.limit / 2) + 1
  once = omega (arith, half_law step.limit, l.loop.short)

  pub around_ends : n ≤ i → Around src total (step.limit / 2) buf rest
  around_ends le =
      let none : children_left src step i ≡ [] = no_children (own_node M N (pairs M N - 1)) (set_of M N step.s step.t) i m.entries (omega (arith, l.width)) in
      stand_ends (omega (arith, l.ends, ap length none)) l.stands

  pub children_few : n ≤ most_states
  children_few = omega (arith, l.width, step-few g)

  pub stack_room : words * n ≤ length stack
  stack_room = omega (arith, room-below g l.loop.short l.width)

  -- the bytes of the child at place i: its entry, then its node and the children after it
  abbrev entry : List ℕ
  entry = entry_bytes (target_at m i) (get_or (weights m) i 0)

  abbrev child_bytes : List ℕ
  child_bytes = node_bytes (own_node M N (pairs M N - 1) (target_at m i) (set_of M N step.s step.t i))

  abbrev later : List ℕ
  later = children_left src step (i + 1)

  module _ (lt : i < n) where
    place : i < length m.entries
    place = omega (arith, l.width)

    pub place-known : i < length (first_step src.tables.now j).entries
    place-known = subst (λ (m : Transition). i < length m.entries) (sym l.choice.is) place

    parts : children_left src step i ≡ entry ++ (child_bytes ++ later)
    parts = child-at (own_node M N (pairs M N - 1)) (set_of M N step.s step.t) i m.entries place

    turn : At total at (entry ++ (child_bytes ++ later))
    turn = at-is parts l.place

    pub entry_slot : Slot total at (at + 3) buf entry
    entry_slot =
        record {
          ordered = omega arith;
          room = omega (arith, turn.fits, length-append entry (child_bytes ++ later), g.size);
          part = at_front entry (child_bytes ++ later) turn;
          size = omega arith;
        }

  -- the entry of the child is written as ys, with the target w, and its set is in hand
  pub record Child (w : ℕ) (ys : List ℕ) (members : Set) : Type 0 where
    pub more : i < n
    pub target : w ≡ target_at (first_step src.tables.now j) i
    pub put : ys ≡ over (entry_bytes w (get_or (weights (first_step src.tables.now j)) i 0)) (piece at (at + 3) buf)
    pub same : length ys ≡ length (piece at (at + 3) buf)
    pub set : mask members ≡ row_of stack i

  module _ {w : ℕ} {ys : List ℕ} {members : Set} (child : Child w ys members) where
    abbrev X : Test
    X = member (mask members)

    target_is : w ≡ target_at m i
    target_is = child.target ∙ ap (λ (m : Transition). target_at m i) l.choice.is

    set_is : X ≡ set_of M N step.s step.t i
    set_is = ap member child.set ∙ l.sets.set i (place child.more)

    abbrev buf' : List ℕ
    buf' = placed at (at + 3) buf ys

    -- the child's entry is in place
    entry_stands : PartLoop src total (step.limit / 2) (at + 3) buf' rest
    entry_stands =
        stand_whole l.stands (entry_slot child.more) ys child.same
        (λ k b. ap (λ (z : List ℕ). get_or z k 0) child.put
        ∙ get_or-append (entry_bytes w (get_or (weights (first_step src.tables.now j)) i 0)) (drop 3 (piece at (at + 3) buf)) 0 k b
        ∙ ap₂ (λ (u w : ℕ). get_or (entry_bytes u w) k 0) target_is (ap (λ (m : Transition). get_or (weights m) i 0) l.choice.is))

    entry_kept : length buf' ≡ length buf
    entry_kept = slot_kept (entry_slot child.more) ys child.same

    -- the child's pairs
    below : (v : ℕ) → T (X v) → Measured src.tables.now src.choices.now src.lengths.now w v
    below v h =
        let q = g.measured in
        subst (λ (k : ℕ). Measured src.tables.now src.choices.now src.lengths.now k v) (sym target_is)
        (record {
          met = q.met;
          here = q.below step.s step.t i v q.here (place child.more) (subst (λ (X : Test). T (X v)) set_is h);
          lost = q.lost;
          below = q.below;
          choice = q.choice;
          right = q.right;
        })

    child-state : w < states_of M
    child-state = subst (λ (k : ℕ). k < states_of M) (sym target_is) target-low
      where
        target-low : target_at m i < states_of M
        target-low =
            chosen-target M N (sound (first_form src.tables.now) g.given.ranked.loaded.first) step.s step.t lost.left lost.right lost.fell i
            (omega (arith, weights-length m, place child.more))

    child-lost : (v : ℕ) → T (X v) → (v < states_of N) × (0 < rank M N w v)
    child-lost v h = let p = pair_lost g.given (below v h) in (p.right, p.fell)

    -- its node
    abbrev node : Node
    node = record { s = w; members = members; half = step.limit / 2 }

    -- which does not depend on the fuel
    node_same : child_bytes ≡ node_of src node
    node_same =
        let loaded = g.given.ranked.loaded in
        let lower : RanksUpTo M N (pairs M N - 1) w X =
        record {
          state = child-state;
          ranks = λ v b h.
              let q = below-lost src.tables.now loaded step.s step.t lost i v (place child.more) (subst (λ (X : Test). T (X v)) set_is h) in
              let r : rank M N w v < rank M N step.s step.t = subst (λ (k : ℕ). rank M N k v < rank M N step.s step.t) (sym target_is) q.1 in
              ((child-lost v h).1, omega (arith, r, (rank_law M N step.s step.t lost.left lost.right).bound));
        } in
        ap₂ (λ (u : ℕ) (X : Test). node_bytes (own_node M N (pairs M N - 1) u X)) (sym target_is) (sym set_is)
        ∙ ap node_bytes (node_fuel M N (sound (first_form src.tables.now) loaded.first) (pairs M N - 1) (pairs M N) w X lower
        (fallen-set M N (sound (first_form src.tables.now) loaded.first) w child-state X child-lost))

    node_turn : At total (at + 3) (node_of src node ++ later)
    node_turn = at-is (ap (λ (z : List ℕ). z ++ later) node_same) (at_back entry (child_bytes ++ later) (turn child.more))

    -- its length, from the list
    node_sum : 1 + set_length (states_of N) src.lengths.now w X ≡ length (node_of src node)
    node_sum =
        ap (◌+◌ 1) (sum_ext (states_of N) _ _ (λ v _. when-same (X v) _ _ (λ h. let q = below v h in q.right w v q.here)))
        ∙ sym (node_size M N (sound (first_form src.tables.now) g.given.ranked.loaded.first) w child-state X child-lost)

    node_room : at + 3 + length (node_of src node) ≤ length buf
    node_room = omega (arith, node_turn.fits, length-append (node_of src node) later, g.size)

    pub sum-given : SumGiven src.tables.now src.lengths.now w (mask members)
    sum-given =
        record {
          loaded = g.given.ranked.loaded;
          low = omega (arith, child-state, (limits (first_form src.tables.now) g.given.ranked.loaded.first).states-few);
          inside = λ v h. (child-lost v h).0;
          room = let row : suc w * states_of N ≤ states_of M * states_of N = mul-le-mul_right (states_of N) child-state in omega (arith, row, suc-mul w (states_of N), g.given.enough);
          small = omega (arith, node_sum, node_room, l.loop.small);
        }

    module _ {r : ℕ} (er : r ≡ 1 + set_length (states_of N) src.lengths.now w X) where
      r-is : r ≡ length (node_of src node)
      r-is = er ∙ node_sum

      pub child_slot : Slot total (at + 3) (at + 3 + r) buf' (node_of src node)
      child_slot =
          record {
            ordered = omega arith;
            room = omega (arith, r-is, node_room, entry_kept);
            part = at_front (node_of src node) later node_turn;
            size = omega (arith, r-is);
          }

      pub child_fits : at + 3 + r < 2 ^ 64
      child_fits = omega (arith, r-is, node_room, l.loop.small)

      pub child-given : NodeGiven src node amounts (part-from (words * n) stack) (piece (at + 3) (at + 3 + r) buf')
      child-given =
          record {
            given = g.given;
            depth = depth_below g l.loop.short l.width;
            state = child-state;
            measured = below;
            size = slot_lent child_slot;
            once = omega (arith, slot_lent child_slot, node_room, once);
          }

      module _ {hole : Option Rest} {zs : List ℕ} (w' : Around src (node_of src node) (step.limit / 2) zs hole) where
        pub child_offset : IfSome hole (λ (r : Rest). at + 3 + r.at < 2 ^ 64)
        child_offset = offset_fits (at + 3) w'.left (omega (arith, r-is, child_fits))

        pub around_next : (same' : length zs ≡ length (piece (at + 3) (at + 3 + r) buf')) {moved rest' : Option Rest} → moved ≡ offset hole (at + 3) → rest' ≡ option_or moved rest
            → {amounts' : List ℕ} (ws : List ℕ) → length amounts' ≡ length amounts → length (back (words * n) stack ws) ≡ length stack
            → AroundLoop src step j n amounts' (back (words * n) stack ws) (placed (at + 3) (at + 3 + r) buf' zs) rest' (at + 3 + r) (i + 1)
        around_next same' em er ws ea es =
            record {
              loop = loop-next l.loop (record { same-amounts = ea; same_stack = es; same_buf = slot_kept child_slot zs same' ∙ entry_kept });
              choice = l.choice;
              width = l.width;
              sets = record { set = λ k b. ap member (kept-below n k stack ws stack_room (omega (arith, l.width))) ∙ l.sets.set k b };
              place = subst (λ (k : ℕ). At total (at + 3 + k) later) (sym r-is) (at_back (node_of src node) later node_turn);
              ends = omega (arith, l.ends, ap length (parts child.more), length-append entry (child_bytes ++ later), length-append child_bytes later, ap length node_same, r-is);
              stands = stand_next entry_stands child_slot zs same' (omega (arith, r-is, node_room, once)) (around_done w') em er;
            }
