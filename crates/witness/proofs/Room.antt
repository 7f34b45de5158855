-- How long the flow buffer must be, summed up over the transitions of a state by their numbers in a loaded form.
-- Assumes nothing.
use Rattle.form.specs.declared.tables.Tables.{Tables}
use mathlib.Core.Path.{◌≡◌, sym, ap, ap₂, ◌∙◌}
use mathlib.Core.List.{List}
use Prim.Native.Nat.{ℕ, ◌+◌, ◌-◌, ◌*◌, ◌≤◌, ◌<◌}
use native.Mathlib.Omega.{arith}
use lib.ListN.{length}
use Rattle.simulation.specs.Table.{states_of, steps, transition}
use Rattle.simulation.proofs.Finite.Sums.{sum_term}
use Rattle.simulation.specs.Limits.{most_entries}
use Rattle.form.specs.Form.{start_of, transitions_of, entries_listed}
use Rattle.form.specs.Tables.{first_form, first_table, second_table, BothLoaded}
use Rattle.form.proofs.FormLaws.{counts, listed_of, listed-most, start-bound}
use Rattle.flows.specs.Flow.{step_room, room_for, flow_room, most_flow}
use Rattle.flows.proofs.FlowRoom.{room-none, room-more, room_next, room_mono, room_bound}
use Rattle.witness.specs.Shown.{room_asked}

-- how many entries the transition k of the state s lists
abbrev pub listed : (tables : Tables) (s k : ℕ) → ℕ
listed tables s k = entries_listed (first_form tables) (start_of (first_form tables) s + k)

-- what the transitions of the state s before number j need, and the count before them
abbrev pub so_far : (tables : Tables) (s j : ℕ) → ℕ
so_far tables s j = room_for (states_of (second_table tables)) (j - start_of (first_form tables) s) (listed tables s)

module _ (tables : Tables) (l : BothLoaded tables) (s : ℕ) (a : s < states_of (first_table tables)) where
  abbrev f : List ℕ
  f = first_form tables

  abbrev q : ℕ
  q = states_of (second_table tables)

  abbrev n : ℕ
  n = length (steps (first_table tables) s)

  pub room_limit : room_asked tables s ≤ most_flow
  room_limit = room_bound q (listed tables s) n (l.first.valid.few_each s a) (listed-most f l.first s a) l.second.valid.shape.few_states

  -- the flow has room: a transition lists at least the entries that it has
  pub room_asked-enough : flow_room (first_table tables) (second_table tables) s ≤ room_asked tables s
  room_asked-enough = room_mono q (listed tables s) n (λ k. length (transition (first_table tables) s k).entries) (λ k b. listed_of f l.first s k a b)

  pub room-start : {j : ℕ} → j ≡ start_of f s → 1 ≡ so_far tables s j
  room-start {j} e = room-none q (listed tables s) ∙ ap (λ (i : ℕ). room_for q i (listed tables s)) (let z : 0 ≡ j - start_of f s = omega arith in z)

  pub room-end : {j : ℕ} → j ≡ start_of f (s + 1) → so_far tables s j ≡ room_asked tables s
  room-end {j} e = ap (λ (i : ℕ). room_for q i (listed tables s)) (let z : j - start_of f s ≡ n = omega (arith, counts f l.first s a) in z)

  module _ (j : ℕ) (low : start_of f s ≤ j) (high : j < start_of f (s + 1)) where
    pub room-number : j < transitions_of f
    room-number = omega (arith, start-bound f l.first (s + 1) (omega arith))

    abbrev k : ℕ
    k = j - start_of f s

    within : k < n
    within = omega (arith, counts f l.first s a)

    here : listed tables s k ≡ entries_listed f j
    here = ap (entries_listed f) (let z : start_of f s + k ≡ j = omega arith in z)

    -- what the loop adds for the transition j
    module _ {r w e : ℕ} (er : r ≡ so_far tables s j) (ew : w ≡ q) (ee : e ≡ entries_listed f j) where
      added : 3 + 6 * e * w ≡ step_room q (listed tables s k)
      added = ap₂ (λ (i v : ℕ). step_room v i) (ee ∙ sym here) ew

      pub room-added : r + (3 + 6 * e * w) ≡ so_far tables s (j + 1)
      room-added =
          let more : k + 1 ≡ j + 1 - start_of f s = omega arith in
          omega (arith, added, room-more q (listed tables s) k er, ap (λ (i : ℕ). room_for q i (listed tables s)) more)

      -- no number on the way is large
      pub room_small : (e ≤ most_entries) × (r + (3 + 6 * e * w) ≤ most_flow)
      room_small = (
        omega (arith, here, sum_term n (listed tables s) k within, listed-most f l.first s a),
        omega (arith, added, room_next q (listed tables s) k n within, room_limit),
      )
