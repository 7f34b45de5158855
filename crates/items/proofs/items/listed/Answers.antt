-- `items::items::listed` meets its contract. The loop's invariant: the codes below low are below the one looked for, those from high on above it.
-- Assumes nothing.
use mathlib.Core.Path.{◌≡◌, sym, ◌∙◌}
use Prim.Native.Nat.{ℕ, ◌+◌, ◌-◌, ◌/◌, ◌<◌}
use native.Mathlib.Omega.{arith}
use lib.Dec.{eqb→eq}
use borrow.Author.Tests.{eq-eqb}
use Rattle.simulation.proofs.Finite.Tests.{any_some, any_found, is_false}
use Rattle.layout.specs.Bytes.{code}
use Rattle.layout.proofs.Bounds.{codes_ascend}
use Rattle.items.proofs.items.listed.Goals as goal
use Rattle.items.proofs.items.listed.Goals.{After-loop-low}

-- where low and high have met, no code is the one looked for
none : (c : After-loop-low) → let a = c.args in (i : ℕ) → i < a.n → code a.s.now.width a.s.now.bytes.now i ≡ a.c → ⊥
none c i m e =
    let l = c.loop-low in
    let not_below : i < l.low → ⊥ = λ b. omega (arith, l.invariant.below i b) in
    omega (arith, l.invariant.above i (omega arith) m)

pub returns-then-code-c : goal.returns-then-code-c
returns-then-code-c c =
    let l = c.loop-low in
    sym (any_found _ (l.low + (l.high - l.low) / 2) _ (omega arith) (eq-eqb _ _ (sym c.code_at-code.ensures.is ∙ c.if-code-c.true)))

pub loop-low-preserved-then-code-c-2 : goal.loop-low-preserved-then-code-c-2
loop-low-preserved-then-code-c-2 c =
    let l = c.loop-low in
    let ascend = codes_ascend _ _ c.args.n c.requires.ascend in
    record {
      meet = omega arith;
      within = omega arith;
      below = λ i h. omega (arith, ascend i (l.low + (l.high - l.low) / 2) (omega arith) (omega arith));
      above = l.invariant.above;
    }

pub loop-low-preserved : goal.loop-low-preserved
loop-low-preserved c =
    let l = c.loop-low in
    let ascend = codes_ascend _ _ c.args.n c.requires.ascend in
    record { meet = omega arith; within = omega arith; below = l.invariant.below; above = λ i h m. omega (arith, ascend (l.low + (l.high - l.low) / 2) i h m) }

pub returns : goal.returns
returns c = sym (is_false _ (λ t. let r = any_some c.args.n _ t in none c r.0 r.1 (eqb→eq _ _ r.2)))
