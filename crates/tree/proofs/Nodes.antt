-- What is written of a node, turn by turn.
-- Assumes nothing.
use mathlib.Core.Path.{◌≡◌, refl, sym, ap, ◌∙◌, subst}
use mathlib.Core.Logic.{◌⊎◌, inl, inr, ⊎_elim}
use mathlib.Core.List.{List, [], ◌∷◌, ◌++◌}
use Prim.Native.Nat.{ℕ, ◌+◌, ◌-◌, ◌*◌, ◌^◌, ◌≤◌, ◌<◌}
use native.Mathlib.Nat.{lt_of_lt_of_le}
use native.Mathlib.Omega.{arith}
use lib.Dec.{T}
use lib.ListN.{length, get_or, set, length-set, length-append}
use lib.Seq.{get_or-set_same}
use Rattle.std.specs.Prelude.{Option, Some, None, IfSome}
use Rattle.std.specs.Option.{option_or}
use Rattle.simulation.specs.Limits.{most_states}
use Rattle.simulation.specs.Sum.{sum, when}
use Rattle.simulation.specs.Table.{target_at, states_of}
use Rattle.simulation.specs.Round.{pairs}
use Rattle.simulation.specs.Tree.{chosen, set_of, own_node}
use Rattle.simulation.specs.Length.{head_length, one_length, pair_length}
use Rattle.simulation.proofs.Finite.Sums.{sum_one, sum_add, sum_mul, members_most}
use Rattle.simulation.proofs.Simulation.Ranks.{rank_law}
use Rattle.simulation.proofs.Trees.Length.{pair_length-step}
use Rattle.form.specs.Tables.{first_form, first_table, contract_table, BothLoaded}
use Rattle.form.proofs.FormLaws.{sound}
use Rattle.form.proofs.Contract.{contract-few}
use Rattle.word.specs.Mask.{Test, member, without_member, size, Lowest}
use Rattle.set.specs.Words.{mask}
use Rattle.set.specs.declared.Set.{Set}
use Rattle.word.proofs.Mask.{member-none, below_or_not}
use Rattle.choice.specs.Choice.{Lost}
use Rattle.counting.specs.Pair.{number}
use Rattle.counting.proofs.Pairs.{lost-place, lost-low, member-holds, without_in}
use Rattle.measure.specs.Lengths.{Measured}
use Rattle.tree.specs.declared.write.Node.{Node}
use Rattle.tree.specs.declared.write.Rest.{Rest}
use Rattle.tree.specs.declared.write.Source.{Source}
use Rattle.tree.specs.declared.write.Step.{Step}
use Rattle.tree.specs.Parts.{At, offset, Depth, node_of, step_of, Left, whole, but, WriteGiven, StepGiven, StepWritten, NodeGiven, Around}
use Rattle.tree.proofs.Bytes.{members_all, steps_lowest, no_steps, steps-bytes, node_is}
use Rattle.tree.proofs.Lengths.{step-size}
use Rattle.tree.proofs.Places.{at_self, at-is, at_front, at_back, piece, placed}
use Rattle.tree.proofs.Slots.{Slot, slot_lent, slot_kept, PartLoop, PartsDone, stand_begins, stand_next, stand_ends, offset_fits}

-- ---- a pair that is measured

module _ {src : Source} {amounts : List ℕ} (g : WriteGiven src amounts) {s t : ℕ} (m : Measured src.tables.now src.choices.now src.lengths.now s t) where
  pub pair_lost : Lost src.tables.now s t
  pair_lost = m.lost s t m.here

  -- the list holds the length of its bytes
  pub pair_size : get_or src.lengths.now (number src.tables.now s t) 0 ≡ length (step_of src s t)
  pair_size =
      m.right s t m.here
      ∙ sym (step-size (first_table src.tables.now) (contract_table src.tables.now) (sound (first_form src.tables.now) g.ranked.loaded.first) s pair_lost.left t pair_lost.right pair_lost.fell)

  pub pair_noted : number src.tables.now s t < length src.choices.now
  pair_noted = lt_of_lt_of_le (lost-place pair_lost) g.notes

  -- what asking for its length rests on
  pub pair_asked : BothLoaded src.tables.now × (s < most_states) × (t < most_states) × (number src.tables.now s t < length src.lengths.now)
  pair_asked =
      let low = lost-low pair_lost g.ranked.loaded in
      (g.ranked.loaded, low.0, low.1, lt_of_lt_of_le (lost-place pair_lost) g.enough)

  -- a pair takes its head, and four bytes at least for each child
  pub pair_long : head_length + 4 * length (chosen (first_table src.tables.now) (contract_table src.tables.now) s t).entries ≤ length (step_of src s t)
  unfolding one_length
  pair_long =
      let M = first_table src.tables.now in
      let N = contract_table src.tables.now in
      let n = length (chosen M N s t).entries in
      omega (
        arith,
        pair_size,
        m.right s t m.here,
        pair_length-step M N (sound (first_form src.tables.now) g.ranked.loaded.first) s t pair_lost.left pair_lost.right pair_lost.fell,
        sum_add n (λ _. 4) (λ i. sum (states_of N) (λ v. when (set_of M N s t i v) (pair_length M N (target_at (chosen M N s t) i) v))),
        sum_mul n 4 (λ _. 1),
        sum_one n,
      )

-- ---- what is lent keeps its lengths

pub record LengthsKept (amounts₀ stack₀ buf₀ amounts stack buf : List ℕ) : Type 0 where
  pub same-amounts : length amounts ≡ length amounts₀
  pub same_stack : length stack ≡ length stack₀
  pub same_buf : length buf ≡ length buf₀

pub kept-all : {amounts stack buf : List ℕ} → LengthsKept amounts stack buf amounts stack buf
kept-all = record { same-amounts = refl; same_stack = refl; same_buf = refl }

module _ {amounts stack buf amounts' stack' buf' : List ℕ} (k : LengthsKept amounts stack buf amounts' stack' buf') where
  depth-kept : {limit : ℕ} → Depth limit stack → Depth limit stack'
  depth-kept d = record { levels = d.levels; deep = d.deep; words = omega (arith, d.words, k.same_stack) }

  module _ {src : Source} where
    given-kept : WriteGiven src amounts → WriteGiven src amounts'
    given-kept g = record { ranked = g.ranked; notes = g.notes; enough = g.enough; amounts_room = omega (arith, g.amounts_room, k.same-amounts) }

    step_kept : {step : Step} → StepGiven src step amounts stack buf → StepGiven src step amounts' stack' buf'
    step_kept g = record { given = given-kept g.given; depth = depth-kept g.depth; measured = g.measured; size = k.same_buf ∙ g.size }

    node_kept : {node : Node} → NodeGiven src node amounts stack buf → NodeGiven src node amounts' stack' buf'
    node_kept g =
        record {
          given = given-kept g.given;
          depth = depth-kept g.depth;
          state = g.state;
          measured = g.measured;
          size = k.same_buf ∙ g.size;
          once = omega (arith, k.same_buf, g.once);
        }

-- a loop that writes a transition which is not longer than the limit
pub record StepLoop (src : Source) (step : Step) (amounts stack buf : List ℕ) : Type 0 where
  pub call : StepGiven src step amounts stack buf
  pub short : length buf ≤ step.limit
  pub small : length buf < 2 ^ 64

module _ {src : Source} {step : Step} where
  pub loop_begins : {amounts stack buf amounts' stack' buf' : List ℕ} → StepGiven src step amounts stack buf → length buf ≤ step.limit → length buf < 2 ^ 64
      → LengthsKept amounts stack buf amounts' stack' buf' → StepLoop src step amounts' stack' buf'
  loop_begins g short small k = record { call = step_kept k g; short = omega (arith, k.same_buf, short); small = omega (arith, k.same_buf, small) }

  pub loop-next : {amounts stack buf amounts' stack' buf' : List ℕ} → StepLoop src step amounts stack buf
      → LengthsKept amounts stack buf amounts' stack' buf' → StepLoop src step amounts' stack' buf'
  loop-next l k = loop_begins l.call l.short l.small k

-- ---- the loop over the members

-- a set's count fits a byte
pub count-byte : (X : Set) {n : ℕ} → n ≡ size most_states (member (mask X)) → n < 2 ^ 8
count-byte X e = omega (arith, e, members_most most_states (member (mask X)))

module _ (src : Source) where
  -- the bytes of the transitions of the members left
  abbrev pub steps-left : ℕ → Test → List ℕ
  steps-left s X = steps-bytes (first_table src.tables.now) (contract_table src.tables.now) s X (pairs (first_table src.tables.now) (contract_table src.tables.now))

  -- where the loop stands
  pub record NodeLoop (node : Node) (amounts stack buf : List ℕ) (rest : Option Rest) (at left : ℕ) : Type 0 where
    pub call : NodeGiven src node amounts stack buf
    pub small : length buf < 2 ^ 64
    pub inside : (t : ℕ) → T (member left t) → T (member (mask node.members) t)
    pub place : At (node_of src node) at (steps-left node.s (member left))
    pub ends : at + length (steps-left node.s (member left)) ≡ length (node_of src node)
    pub stands : PartLoop src (node_of src node) node.half at buf rest

module _ {src : Source} {node : Node} {amounts stack buf : List ℕ} (g : NodeGiven src node amounts stack buf) where
  abbrev s : ℕ
  s = node.s

  abbrev members : ℕ
  members = mask node.members

  node_parts : node_of src node ≡ size (states_of (contract_table src.tables.now)) (member members) ∷ steps-left src s (member members)
  node_parts =
      let M = first_table src.tables.now in
      let N = contract_table src.tables.now in
      node_is M N s (member members) (pairs M N)
      (λ t h. let p = pair_lost g.given (g.measured t h) in lt_of_lt_of_le p.fell (rank_law M N s t p.left p.right).bound)

  pub node_room : 0 < length buf
  node_room = omega (arith, g.size, ap length node_parts)

  -- the count is written
  pub node_begins : (n : ℕ) → n ≡ size most_states (member members) → length buf < 2 ^ 64 → NodeLoop src node amounts stack (set buf 0 n) None 1 members
  node_begins n e h =
      let N = contract_table src.tables.now in
      let count : n ≡ size (states_of N) (member members) =
      e ∙ members_all (states_of N) (member members) (contract-few src.tables.now g.given.ranked.loaded) (λ t h. (pair_lost g.given (g.measured t h)).right) in
      record {
        call = node_kept (record { same-amounts = refl; same_stack = refl; same_buf = length-set buf 0 n }) g;
        small = omega (arith, length-set buf 0 n);
        inside = λ t h. h;
        place = at_back (size (states_of N) (member members) ∷ []) (steps-left src s (member members)) (at-is node_parts (at_self (node_of src node)));
        ends = omega (arith, ap length node_parts);
        stands = stand_begins (omega arith) (λ k lt. first_byte (set buf 0 n) (node_of src node) k lt (get_or-set_same buf 0 n 0 node_room ∙ count ∙ sym (ap (λ (l : List ℕ). get_or l 0 0) node_parts)));
      }
    where
      first_byte : (l m : List ℕ) (k : ℕ) → k < 1 → get_or l 0 0 ≡ get_or m 0 0 → get_or l k 0 ≡ get_or m k 0
      first_byte l m k lt h = let z : 0 ≡ k = omega arith in subst (λ (j : ℕ). get_or l j 0 ≡ get_or m j 0) z h

-- ---- a transition that is written or is what is left

-- all of it is left
pub left-all : {src : Source} {s t len : ℕ} → Measured src.tables.now src.choices.now src.lengths.now s t → len ≡ length (step_of src s t) → (now : List ℕ)
    → Left src (step_of src s t) (length (step_of src s t)) now (Some (record { s = s; t = t; at = 0; len = len }))
left-all {src} {s} {t} m e now =
    but
    (record {
      measured = m;
      size = e;
      part = at_self (step_of src s t);
      within = omega arith;
      written = λ k lt out. absurd (⊎_elim (λ h. omega arith) (λ h. omega arith) out);
    })

step-done : {src : Source} {step : Step} {hole : Option Rest} {old new : List ℕ} → Measured src.tables.now src.choices.now src.lengths.now step.s step.t
    → length old ≡ length (step_of src step.s step.t) → StepWritten src step hole old new
    → PartsDone src (step_of src step.s step.t) step.limit new hole
step-done {src} {step} {hole} {old} {new} m e w = by (below_or_not step.limit (length old))
  where
    by : (step.limit < length old) ⊎ (length old ≤ step.limit) → PartsDone src (step_of src step.s step.t) step.limit new hole
    by (inl c) =
        subst (λ (r : Option Rest). PartsDone src (step_of src step.s step.t) step.limit new r) (sym (w.long c)) (record { left = left-all m e new; long = c })
    by (inr c) =
        let q = w.short c in
        subst (λ (r : Option Rest). PartsDone src (step_of src step.s step.t) step.limit new r) (sym q.0)
        (record { left = whole (λ k _. ap (λ (l : List ℕ). get_or l k 0) q.1); long = tt })

-- ---- the turns of the loop

module _ {src : Source} {node : Node} {amounts stack buf : List ℕ} {rest : Option Rest} {at left : ℕ}
    (l : NodeLoop src node amounts stack buf rest at left) where
  pub node_ends : left ≡ 0 → Around src (node_of src node) node.half buf rest
  node_ends z =
      let M = first_table src.tables.now in
      let N = contract_table src.tables.now in
      let none : steps-left src node.s (member left) ≡ [] =
      ap (λ (k : ℕ). steps-left src node.s (member k)) z ∙ no_steps M N (own_node M N (pairs M N - 1)) node.s (member 0) (states_of N) member-none in
      stand_ends (omega (arith, l.ends, ap length none)) l.stands

  -- the bytes of the members left other than t
  abbrev others : ℕ → List ℕ
  others t = steps-left src node.s (without_member t (member left))

  module _ (t : ℕ) (low : Lowest (member left) t) where
    node_measured : Measured src.tables.now src.choices.now src.lengths.now node.s t
    node_measured = l.call.measured t (l.inside t (member-holds low))

    pub node_asked : BothLoaded src.tables.now × (node.s < most_states) × (t < most_states) × (number src.tables.now node.s t < length src.lengths.now)
    node_asked = pair_asked l.call.given node_measured

    apart : steps-left src node.s (member left) ≡ step_of src node.s t ++ others t
    apart =
        let M = first_table src.tables.now in
        let N = contract_table src.tables.now in
        steps_lowest M N (own_node M N (pairs M N - 1)) node.s (member left) t (states_of N) (pair_lost l.call.given node_measured).right low

    turn : At (node_of src node) at (step_of src node.s t ++ others t)
    turn = at-is apart l.place

    turn_length : length (steps-left src node.s (member left)) ≡ length (step_of src node.s t) + length (others t)
    turn_length = ap length apart ∙ length-append (step_of src node.s t) (others t)

  -- the lowest member left and the length of its transition
  pub record Next (t r : ℕ) : Type 0 where
    pub low : Lowest (member left) t
    pub size : r ≡ get_or src.lengths.now (number src.tables.now node.s t) 0

  module _ {t r : ℕ} (next : Next t r) where
    turn_size : r ≡ length (step_of src node.s t)
    turn_size = next.size ∙ pair_size l.call.given (node_measured t next.low)

    pub turn_slot : Slot (node_of src node) at (at + r) buf (step_of src node.s t)
    turn_slot =
        record {
          ordered = omega arith;
          room = omega (arith, turn_size, turn_length t next.low, l.ends, l.call.size);
          part = at_front (step_of src node.s t) (others t) (turn t next.low);
          size = omega (arith, turn_size);
        }

    abbrev step : Step
    step = record { s = node.s; t = t; limit = node.half }

    pub node_step : StepGiven src step amounts stack (piece at (at + r) buf)
    node_step = record { given = l.call.given; depth = l.call.depth; measured = node_measured t next.low; size = slot_lent turn_slot }

    module _ {hole : Option Rest} {ys : List ℕ} (w : StepWritten src step hole (piece at (at + r) buf) ys) where
      done : PartsDone src (step_of src node.s t) node.half ys hole
      done = step-done (node_measured t next.low) (slot_lent turn_slot) w

      pub node_offset : IfSome hole (λ (r : Rest). at + r.at < 2 ^ 64)
      node_offset = offset_fits at done.left (omega (arith, turn_size, turn_slot.room, l.small))

      pub node_next : (same : length ys ≡ length (piece at (at + r) buf)) {moved rest' : Option Rest} → moved ≡ offset hole at → rest' ≡ option_or moved rest
          → {amounts' stack' : List ℕ} (left' : ℕ) → member left' ≡ without_member t (member left) → length amounts' ≡ length amounts → length stack' ≡ length stack
          → NodeLoop src node amounts' stack' (placed at (at + r) buf ys) rest' (at + r) left'
      node_next same em er left' el ea es =
          let back : others t ≡ steps-left src node.s (member left') = ap (steps-left src node.s) (sym el) in
          let k : LengthsKept amounts stack buf _ _ (placed at (at + r) buf ys) = record { same-amounts = ea; same_stack = es; same_buf = slot_kept turn_slot ys same } in
          record {
            call = node_kept k l.call;
            small = omega (arith, k.same_buf, l.small);
            inside = λ u h. l.inside u (without_in t left u el h);
            place = at-is back (subst (λ (k : ℕ). At (node_of src node) (at + k) (others t)) (sym turn_size) (at_back (step_of src node.s t) (others t) (turn t next.low)));
            ends = omega (arith, l.ends, turn_length t next.low, turn_size, ap length back);
            stands = stand_next l.stands turn_slot ys same (omega (arith, turn_slot.room, l.call.once)) done em er;
          }
