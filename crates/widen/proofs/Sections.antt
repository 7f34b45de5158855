-- The wide bytes by the layout that was read: where the four parts lie, that they are the whole, and how they are written one after the other.
-- Assumes nothing.
use mathlib.Core.Path.{◌≡◌, sym, ◌∙◌, ap, subst}
use mathlib.Core.List.{List, [], ◌++◌, append_assoc, append-nil}
use Prim.Native.Nat.{ℕ, ◌+◌, ◌*◌, ◌-◌, ◌≤◌}
use native.Mathlib.Omega.{arith}
use lib.ListN.{length, length-append}
use Rattle.simulation.specs.Limits.{narrow}
use Rattle.layout.specs.Bytes.{actions, states_start, states, entries_start, entries}
use Rattle.table.specs.declared.parts.Layout.{Layout}
use Rattle.table.proofs.PartLaws.{Parts}
use Rattle.buffer.specs.Buffer.{Filled}
use Rattle.buffer.proofs.Buffer.{Written, begun}
use Rattle.widen.specs.Parts.{run_of, wide_codes, wide_transitions, wide_bytes}

module _ (s : List ℕ) (t : Layout) where
  abbrev pub codes-part : List ℕ
  codes-part = wide_codes s (1 + t.actions)

  abbrev pub states-part : List ℕ
  states-part = run_of s (t.states.at - 1) (t.transitions.at - (t.states.at - 1))

  abbrev pub transitions-part : List ℕ
  transitions-part = wide_transitions s t.transitions.at t.transitions.count

  abbrev pub entries-part : List ℕ
  entries-part = run_of s (t.entries.at - 2) (length s - (t.entries.at - 2))

  -- what is left before each part but the first
  abbrev pub entries-left : List ℕ
  entries-left = entries-part ++ []

  abbrev pub transitions-left : List ℕ
  transitions-left = transitions-part ++ entries-left

  abbrev pub states-left : List ℕ
  states-left = states-part ++ transitions-left

  module _ (p : Parts narrow s t) where
    pub parts_are : wide_bytes s ≡ codes-part ++ states-left
    unfolding wide_bytes
    parts_are =
        let a : 1 + actions narrow s ≡ 1 + t.actions = omega arith in
        let b : states_start narrow s ≡ t.states.at - 1 = omega arith in
        let b-long : 1 + states narrow s + 2 ≡ t.transitions.at - (t.states.at - 1) = omega arith in
        let d : entries_start narrow s ≡ t.entries.at - 2 = omega arith in
        let d-long : 2 + 3 * entries narrow s ≡ length s - (t.entries.at - 2) = omega arith in
        (λ i. wide_codes s (a i) ++ run_of s (b i) (b-long i) ++ wide_transitions s (sym p.transitions-from i) (sym p.transitions-are i) ++ run_of s (d i) (d-long i))
        ∙ simp (append_assoc, append-nil)

    pub codes-within : length codes-part ≤ length (wide_bytes s)
    codes-within = omega (arith, ap length parts_are, length-append codes-part states-left)

    pub codes-written : {old now : List ℕ} {r : ℕ} → length (wide_bytes s) ≤ length old → Filled codes-part r old now → Written (wide_bytes s) old states-left now r
    codes-written {old} {now} {r} room w =
        subst (λ (l : List ℕ). Written l old states-left now r) (sym parts_are) (begun states-left (omega (arith, ap length parts_are)) w)
