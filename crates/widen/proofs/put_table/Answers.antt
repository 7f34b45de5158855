-- `widen::put_table` meets its contract: the four parts are written one after the other.
-- Assumes nothing.
use mathlib.Core.Path.{refl}
use mathlib.Core.List.{List, [], ◌++◌}
use Prim.Native.Nat.{ℕ, ◌+◌, ◌-◌}
use native.Mathlib.Omega.{arith}
use lib.ListN.{length}
use Rattle.simulation.specs.Limits.{narrow}
use Rattle.simulation.proofs.Finite.Lists.{below_length}
use Rattle.layout.specs.Bytes.{byte}
use Rattle.buffer.specs.Buffer.{Filled}
use Rattle.buffer.proofs.Buffer.{Written, part-from, back, lend, next-room, at_room, finish}
use Rattle.table.specs.declared.parts.Layout.{Layout}
use Rattle.table.proofs.PartLaws.{parts-known}
use Rattle.widen.specs.Parts.{wide_bytes}
use Rattle.widen.proofs.Pieces.{codes-length, transitions-length}
use Rattle.widen.proofs.Sections.{states-part, transitions-part, entries-part, states-left, transitions-left, entries-left, codes-written, codes-within}
use Rattle.widen.proofs.put_table.Goals as goal
use Rattle.widen.proofs.put_table.Goals.{After-put_codes-at, After-put_bytes-at, After-put_transitions-at, After-put_bytes-at-2}

-- what is left to write after some of the calls, where the bytes put so far end at a place of the buffer as it is now
module _ (s : List ℕ) (t : Layout) (out : List ℕ) where
  abbrev Leaves : (left now : List ℕ) (at : ℕ) → Type 0
  Leaves left now at = Written (wide_bytes s) out left now at

  -- a part is put
  next : (part left : List ℕ) {now new : List ℕ} {at r : ℕ} → Leaves (part ++ left) now at → Filled part r (part-from at now) new → Leaves left (back at now new) (at + r)
  next part left u w = lend part _ u w.bytes _ _ w.count refl

codes_put : (c : After-put_codes-at) → let a = c.args in Leaves a.s.now a.t a.out.now (states-left a.s.now a.t) c.put_codes-at.new.out c.put_codes-at.result
codes_put c =
    let a = c.args in
    codes-written a.s.now a.t (parts-known narrow _ _ c.requires.0 c.requires.1) c.requires.2 c.put_codes-at.ensures

states_put : (c : After-put_bytes-at) → let a = c.args in
    Leaves a.s.now a.t a.out.now (transitions-left a.s.now a.t) (back c.put_codes-at.result c.put_codes-at.new.out c.put_bytes-at.new.out) (c.put_codes-at.result + c.put_bytes-at.result)
states_put c =
    let a = c.args in
    next a.s.now a.t a.out.now (states-part a.s.now a.t) _
    (codes-written a.s.now a.t (parts-known narrow _ _ c.requires.0 c.requires.1) c.requires.2 c.put_codes-at.ensures) c.put_bytes-at.ensures

transitions_put : (c : After-put_transitions-at) → let a = c.args in
    let now = back c.put_codes-at.result c.put_codes-at.new.out c.put_bytes-at.new.out in
    let at = c.put_codes-at.result + c.put_bytes-at.result in
    Leaves a.s.now a.t a.out.now (entries-left a.s.now a.t) (back at now c.put_transitions-at.new.out) (at + c.put_transitions-at.result)
transitions_put c =
    let a = c.args in
    next a.s.now a.t a.out.now (transitions-part a.s.now a.t) _
    (next a.s.now a.t a.out.now (states-part a.s.now a.t) _
    (codes-written a.s.now a.t (parts-known narrow _ _ c.requires.0 c.requires.1) c.requires.2 c.put_codes-at.ensures) c.put_bytes-at.ensures)
    c.put_transitions-at.ensures

entries_put : (c : After-put_bytes-at-2) → let a = c.args in
    let now₂ = back c.put_codes-at.result c.put_codes-at.new.out c.put_bytes-at.new.out in
    let at₂ = c.put_codes-at.result + c.put_bytes-at.result in
    let now₃ = back at₂ now₂ c.put_transitions-at.new.out in
    let at₃ = at₂ + c.put_transitions-at.result in
    Leaves a.s.now a.t a.out.now [] (back at₃ now₃ c.put_bytes-at-2.new.out) (at₃ + c.put_bytes-at-2.result)
entries_put c =
    let a = c.args in
    next a.s.now a.t a.out.now (entries-part a.s.now a.t) _
    (next a.s.now a.t a.out.now (transitions-part a.s.now a.t) _
    (next a.s.now a.t a.out.now (states-part a.s.now a.t) _
    (codes-written a.s.now a.t (parts-known narrow _ _ c.requires.0 c.requires.1) c.requires.2 c.put_codes-at.ensures) c.put_bytes-at.ensures)
    c.put_transitions-at.ensures) c.put_bytes-at-2.ensures

pub put_codes-at-requires : goal.put_codes-at-requires
put_codes-at-requires c =
    let a = c.args in
    let p = parts-known narrow _ _ c.requires.0 c.requires.1 in
    (omega arith, omega (arith, codes-length a.s.now (1 + a.t.actions), codes-within a.s.now a.t p))

pub overflow_sub-t : goal.overflow_sub-t
overflow_sub-t c = let p = parts-known narrow _ _ c.requires.0 c.requires.1 in omega arith

pub slice_bounds-put_bytes-count : goal.slice_bounds-put_bytes-count
slice_bounds-put_bytes-count c = at_room (codes_put (goal.at.slice_bounds-put_bytes-count c).After-put_codes-at)

pub slice_bounds-put_bytes-start : goal.slice_bounds-put_bytes-start
slice_bounds-put_bytes-start c = at_room (codes_put (goal.at.slice_bounds-put_bytes-start c).After-put_codes-at)

pub put_bytes-at-requires : goal.put_bytes-at-requires
put_bytes-at-requires c =
    let a = c.args in
    let p = parts-known narrow _ _ c.requires.0 c.requires.1 in
    let w = codes_put (goal.at.put_bytes-at-requires c).After-put_codes-at in
    (omega arith, omega (arith, next-room (states-part a.s.now a.t) _ w, below_length (byte a.s.now) (a.t.states.at - 1) (a.t.transitions.at - (a.t.states.at - 1))))

pub overflow_add-at : goal.overflow_add-at
overflow_add-at c = let w = states_put (goal.at.overflow_add-at c).After-put_bytes-at in omega (arith, at_room w, w.kept)

pub slice_bounds-put_transitions-count : goal.slice_bounds-put_transitions-count
slice_bounds-put_transitions-count c = at_room (states_put (goal.at.slice_bounds-put_transitions-count c).After-put_bytes-at)

pub slice_bounds-put_transitions-start : goal.slice_bounds-put_transitions-start
slice_bounds-put_transitions-start c = at_room (states_put (goal.at.slice_bounds-put_transitions-start c).After-put_bytes-at)

pub put_transitions-at-requires : goal.put_transitions-at-requires
put_transitions-at-requires c =
    let a = c.args in
    let p = parts-known narrow _ _ c.requires.0 c.requires.1 in
    let w = states_put (goal.at.put_transitions-at-requires c).After-put_bytes-at in
    (omega arith, omega (arith, next-room (transitions-part a.s.now a.t) _ w, transitions-length a.s.now a.t.transitions.at a.t.transitions.count))

pub overflow_add-at-2 : goal.overflow_add-at-2
overflow_add-at-2 c = let w = transitions_put (goal.at.overflow_add-at-2 c).After-put_transitions-at in omega (arith, at_room w, w.kept)

pub overflow_sub-s : goal.overflow_sub-s
overflow_sub-s c = let p = parts-known narrow _ _ c.requires.0 c.requires.1 in omega arith

pub slice_bounds-put_bytes-count-2 : goal.slice_bounds-put_bytes-count-2
slice_bounds-put_bytes-count-2 c = at_room (transitions_put (goal.at.slice_bounds-put_bytes-count-2 c).After-put_transitions-at)

pub slice_bounds-put_bytes-start-2 : goal.slice_bounds-put_bytes-start-2
slice_bounds-put_bytes-start-2 c = at_room (transitions_put (goal.at.slice_bounds-put_bytes-start-2 c).After-put_transitions-at)

pub put_bytes-at-requires-2 : goal.put_bytes-at-requires-2
put_bytes-at-requires-2 c =
    let a = c.args in
    let p = parts-known narrow _ _ c.requires.0 c.requires.1 in
    let w = transitions_put (goal.at.put_bytes-at-requires-2 c).After-put_transitions-at in
    (omega arith, omega (arith, next-room (entries-part a.s.now a.t) _ w, below_length (byte a.s.now) (a.t.entries.at - 2) (length a.s.now - (a.t.entries.at - 2))))

pub overflow_add-at-3 : goal.overflow_add-at-3
overflow_add-at-3 c = let w = entries_put (goal.at.overflow_add-at-3 c).After-put_bytes-at-2 in omega (arith, at_room w, w.kept)

pub returns : goal.returns
returns c = finish (entries_put (goal.at.returns c).After-put_bytes-at-2)
