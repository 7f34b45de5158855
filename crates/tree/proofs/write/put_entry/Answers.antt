-- `write::put_entry` meets its contract. Assumes nothing.
use mathlib.Core.Path.{ap, ap₂, ◌∙◌}
use mathlib.Core.List.{List, [], ◌∷◌}
use Prim.Native.Nat.{ℕ}
use native.Mathlib.Omega.{arith}
use lib.ListN.{get_or}
use Rattle.form.specs.Tables.{first_form}
use Rattle.buffer.specs.Buffer.{over}
use Rattle.tree.specs.Begin.{entry_bytes}
use Rattle.buffer.proofs.Buffer.{start, store, finish}
use Rattle.relate.proofs.Places.{place-small, in_targets, in_weights, target-byte}
use Rattle.tree.proofs.Bytes.{low_and_high}
use Rattle.tree.proofs.write.put_entry.Goals as goal

pub offset_bounds-targets-i : goal.offset_bounds-targets-i
offset_bounds-targets-i c =
    let p = c.requires in
    record { fits = omega (arith, place-small (first_form c.args.tables.now) c.args.j p.0.first p.1 c.args.i p.2) }

pub bounds-targets-i : goal.bounds-targets-i
bounds-targets-i c =
    let p = c.requires in
    in_targets (first_form c.args.tables.now) c.args.j p.0.first p.1 c.args.i p.2 _ c.targets.ensures

pub offset_bounds-weights-i : goal.offset_bounds-weights-i
offset_bounds-weights-i c =
    let p = c.requires in
    record { fits = omega (arith, place-small (first_form c.args.tables.now) c.args.j p.0.first p.1 c.args.i p.2) }

pub bounds-weights-i : goal.bounds-weights-i
bounds-weights-i c =
    let p = c.requires in
    in_weights (first_form c.args.tables.now) c.args.j p.0.first p.1 c.args.i p.2 _ c.weights.ensures

pub overflow_cast-buf : goal.overflow_cast-buf
overflow_cast-buf c =
    let p = c.requires in
    record { fits = omega (arith, target-byte (first_form c.args.tables.now) c.args.j p.0.first p.1 c.args.i p.2 _ c.targets.ensures) }

pub returns : goal.returns
returns c =
    let b = c.args.buf.now in
    let i = c.args.i in
    let u = get_or c.targets.result.now i 0 in
    let q = low_and_high c.to_le_bytes.ensures (omega arith) in
    let low = get_or c.to_le_bytes.result 0 0 in
    let high = get_or c.to_le_bytes.result 1 0 in
    let put = finish (store {at = 2} {x = high} (store {at = 1} {x = low} (store {at = 0} {x = u} (start (u ∷ low ∷ high ∷ []) b c.requires.3)))) in (
      ap (λ (l : List ℕ). get_or l i 0) c.targets.ensures,
      put.bytes
          ∙ ap₂ (λ (l h : ℕ). over (u ∷ l ∷ h ∷ []) b) q.0 q.1
          ∙ ap (λ (l : List ℕ). over (entry_bytes u (get_or l i 0)) b) c.weights.ensures,
    )
