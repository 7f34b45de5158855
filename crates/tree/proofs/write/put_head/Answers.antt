-- `write::put_head` meets its contract. Assumes nothing.
use mathlib.Core.Path.{ap, ap₂, ◌∙◌}
use mathlib.Core.List.{[], ◌∷◌}
use Prim.Native.Nat.{ℕ}
use native.Mathlib.Omega.{arith}
use lib.ListN.{length, get_or}
use Rattle.form.specs.Tables.{first_form, first_step}
use Rattle.form.proofs.FormLaws.{limited_at, targets-length}
use Rattle.buffer.specs.Buffer.{over}
use Rattle.buffer.proofs.Buffer.{start, store, finish}
use Rattle.tree.specs.Begin.{transition_head}
use Rattle.tree.proofs.Bytes.{low_and_high}
use Rattle.tree.proofs.write.put_head.Goals as goal

pub overflow_cast-buf : goal.overflow_cast-buf
overflow_cast-buf c =
    let l = limited_at (first_form c.args.tables.now) c.requires.0.first c.args.j c.requires.1 in
    record { fits = omega (arith, ap length c.targets.ensures, l.few, l.paired) }

pub returns : goal.returns
returns c =
    let b = c.args.buf.now in
    let m = first_step c.args.tables.now c.args.j in
    let q = low_and_high c.to_le_bytes.ensures (omega arith) in
    let low = get_or c.to_le_bytes.result 0 0 in
    let high = get_or c.to_le_bytes.result 1 0 in
    let n = length c.targets.result.now in
    (finish (store {at = 2} {x = n} (store {at = 1} {x = high} (store {at = 0} {x = low} (start (low ∷ high ∷ n ∷ []) b c.requires.2))))).bytes
    ∙ ap₂ (λ (l h : ℕ). over (l ∷ h ∷ n ∷ []) b) q.0 q.1
    ∙ ap₂ (λ (a n : ℕ). over (transition_head a n) b) c.code-code.ensures (ap length c.targets.ensures ∙ targets-length m)
