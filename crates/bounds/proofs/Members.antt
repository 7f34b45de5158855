-- The set of some targets, number by number.
-- Assumes nothing.
use mathlib.Core.Path.{◌≡◌, sym, ap, ◌∙◌}
use mathlib.Core.Bool.{Bool, ◌||◌, or-true, true≢false}
use mathlib.Core.List.{List}
use mathlib.Core.Logic.{⊎_elim}
use Prim.Native.Nat.{ℕ, ◌+◌}
use native.Mathlib.Omega.{arith}
use borrow.Author.Tests.{eq-eqb, eqb-true}
use lib.Dec.{eqb}
use lib.ListN.{get_or}
use Rattle.simulation.proofs.Finite.Tests.{last_or_below, either_true}
use Rattle.word.specs.Mask.{Test, member, with_member}
use Rattle.word.proofs.Mask.{member-none}
use Rattle.bounds.specs.Quick.{SetOf}

pub set-start : (ts : List ℕ) → SetOf ts 0 0
set-start ts = record { has = λ i a. absurd (omega arith); only = λ u e. absurd (true≢false (sym e ∙ member-none u)) }

pub set_next : (ts : List ℕ) (i x y : ℕ) → SetOf ts i x → member y ≡ with_member (get_or ts i 0) (member x) → SetOf ts (i + 1) y
set_next ts i x y h e =
    record {
      has = λ k a.
          ap (λ (Y : Test). Y (get_or ts k 0)) e
          ∙ ⊎_elim
          (λ q. ap (λ (b : Bool). b || member x (get_or ts k 0)) (eq-eqb (get_or ts k 0) (get_or ts i 0) (ap (λ (n : ℕ). get_or ts n 0) q)))
          (λ l. ap (λ (b : Bool). eqb (get_or ts k 0) (get_or ts i 0) || b) (h.has k l) ∙ or-true (eqb (get_or ts k 0) (get_or ts i 0)))
          (last_or_below k i (omega arith));
      only = λ u m.
          ⊎_elim
          (λ q. (i, omega arith, sym (eqb-true u (get_or ts i 0) q)))
          (λ q. let w = h.only u q in (w.0, omega (arith, w.1), w.2))
          (either_true (eqb u (get_or ts i 0)) (member x u) (sym (ap (λ (Y : Test). Y u) e) ∙ m));
    }
