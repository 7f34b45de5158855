-- `items::items::check_codes` meets its contract. The loop's invariant: the codes below the one at i ascend strictly.
-- Assumes nothing.
use Prim.Native.Nat.{pred, ◌-◌}
use Rattle.layout.specs.Bytes.{code_refusal}
use Rattle.layout.proofs.Laws.{ItemsPass}
use Rattle.items.proofs.items.check_codes.Given as goal

abbrev pub invariant-loop-i : goal.invariant-loop-i
invariant-loop-i l = ItemsPass (pred l.n) (code_refusal l.s.width l.s.bytes.now) (l.i - 1)
