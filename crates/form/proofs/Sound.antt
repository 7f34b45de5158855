-- A table of valid shape without entries of weight 0 is sound in the sense of simulation's demands; it lists the codes of its transitions, and none of these has more entries than the table has states.
-- Assumes nothing.
use mathlib.Core.Path.{◌≡◌, sym}
use Prim.Native.Nat.{ℕ, zero, suc, ◌+◌, ◌≤◌, ◌<◌}
use native.Mathlib.Numerals.{add-one}
use native.Mathlib.Omega.{arith}
use lib.ListN.{length, length-map}
use Rattle.simulation.specs.Table.{Entry, Transition, Table, weights, target_at}
use Rattle.simulation.specs.Demands.{Sound}
use Rattle.simulation.proofs.Simulation.Steps.{step-state}
use Rattle.simulation.proofs.Complete.Codes.{lists_by, lists-same}
use Rattle.simulation.proofs.Complete.Tables.{OwnCodes}
use Rattle.form.specs.Valid.{Distribution, Shaped, AllPositive}

-- numbers that ascend strictly are no less than their places
pub ascending_above : (n : ℕ) (f : ℕ → ℕ) → ((i : ℕ) → i + 1 < n → f i < f (i + 1)) → (i : ℕ) → i < n → i ≤ f i
ascending_above n f h zero l = omega arith
ascending_above n f h (suc i) l =
    let later = ascending_above n f h i (omega arith) in
    let up : f i < f (suc i) = rw add-one at (h i (omega arith)) in
    omega arith

weights-long : (m : Transition) → length (weights m) ≡ length m.entries
weights-long m = length-map m.entries (λ (e : Entry). e.weight)

pub few-targets : (n : ℕ) (m : Transition) → Distribution n m → length m.entries ≤ n
few-targets n m d = go (length m.entries) d.some d.in_range d.ascending
  where
    go : (k : ℕ) → 0 < k → ((i : ℕ) → i < k → target_at m i < n) → ((i : ℕ) → i + 1 < k → target_at m i < target_at m (i + 1)) → k ≤ n
    go zero l r a = omega arith
    go (suc k) l r a = let last = r k (omega arith) in let up = ascending_above (suc k) (target_at m) a k (omega arith) in omega arith

module _ (M : Table) (v : Shaped M) where
  pub shaped_sound : AllPositive M → Sound M
  shaped_sound positive = record {
    target_bound = λ s k i l m. (v.distribution s k (step-state M s k l) l).in_range i (rw weights-long at m);
    nonempty = λ s k l. rw weights-long (v.distribution s k (step-state M s k l) l).some;
    positive = λ s k i l m. positive s k l i m;
  }

  pub shaped_codes : OwnCodes M
  shaped_codes =
      record {
        listed = λ s k l.
            let r = v.listed s k (step-state M s k l) l in
            lists-same M.codes (sym r.2) (lists_by M.codes r.0 r.1);
      }
