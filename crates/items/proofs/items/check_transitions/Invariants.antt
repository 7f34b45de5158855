-- `items::items::check_transitions` meets its contract. The loop's invariant: the transitions below j pass.
-- Assumes nothing.
use Prim.Native.Nat.{◌+◌, ◌*◌}
use Rattle.layout.specs.Bytes.{transition_refusal}
use Rattle.layout.proofs.Laws.{ItemsPass}
use Rattle.items.proofs.items.check_transitions.Given as goal

abbrev pub invariant-loop-j : goal.invariant-loop-j
invariant-loop-j l = ItemsPass l.m (λ k. transition_refusal l.s.width l.s.bytes.now (l.at + (l.s.width + 1) * k)) l.j
