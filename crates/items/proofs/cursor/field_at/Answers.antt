-- `items::cursor::field_at` meets its contract.
-- Assumes nothing.
use mathlib.Core.Path.{◌≡◌, sym, ◌∙◌, ap}
use Prim.Native.Nat.{ℕ}
use native.Mathlib.Omega.{arith}
use Rattle.layout.specs.Bytes.{field}
use Rattle.layout.proofs.Fields.{byte-field, half-field}
use Rattle.items.proofs.cursor.field_at.Goals as goal

pub returns-then-s-eq-NARROW : goal.returns-then-s-eq-NARROW
returns-then-s-eq-NARROW c =
    let a = c.args in
    let s = a.s.now.bytes.now in
    record {
      is = c.byte_at.ensures.is ∙ sym (byte-field s a.at) ∙ ap (λ (w : ℕ). field w s a.at) (sym c.if-s-eq-NARROW.true);
      small = omega (arith, c.byte_at.ensures.small);
    }

pub returns : goal.returns
returns c =
    let a = c.args in
    let s = a.s.now.bytes.now in
    let two : 2 ≡ a.s.now.width = omega arith in
    record { is = c.half_at.ensures.is ∙ sym (half-field s a.at) ∙ ap (λ (w : ℕ). field w s a.at) two; small = c.half_at.ensures.small }
