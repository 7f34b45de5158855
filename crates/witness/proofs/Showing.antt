-- What is shown of a pair, by what the functions below give.
-- Assumes nothing.
use mathlib.Core.Path.{◌≡◌, refl, ap, ◌∙◌}
use mathlib.Core.List.{List}
use Prim.Native.Nat.{ℕ, ◌≤◌, ◌<◌}
use native.Mathlib.Omega.{arith}
use lib.ListN.{length}
use Rattle.simulation.specs.Table.{Table, states_of}
use Rattle.simulation.specs.Demands.{Kept}
use Rattle.flows.specs.FlowSteps.{Flowed}
use Rattle.flows.proofs.FlowPlace.{right-amounts}
use Rattle.std.specs.Prelude.{Ok, Err}
use Rattle.answer.specs.Numbers.{with_written}
use Rattle.answer.specs.Refused.{Answered}
use Rattle.answer.specs.declared.refusal.Refusal.{Refusal}
use Rattle.answer.specs.declared.refusal.Refusal.TheVariants.{ShortFlow}
use Rattle.answer.specs.declared.answer.Answer.{Answer}
use Rattle.pair_tree.specs.Put.{TreePut}
use Rattle.witness.specs.Shown.{FlowShown, TreeShown}

-- what is shown of a kept pair
module _ (M N : Table) (room listed s t : ℕ) (a : Answer) (flow : List ℕ) where
  pub flow-refused : {r : Answered} {n : ℕ} → s < states_of M → t < states_of N → Kept M N s t → n ≡ room → length flow < n → r ≡ Err (ShortFlow n) → FlowShown M N room listed s t a r flow flow
  flow-refused x y k e h er =
      let w = right-amounts M N s t x y k in
      record {
        amounts = w.0;
        right = w.1;
        refused = λ _. (er ∙ ap (λ (n : ℕ). Err (ShortFlow n)) e, refl);
        written = λ g. absurd (omega arith);
      }

  pub flow-shown : {r : Answered} {n w : ℕ} {flow' : List ℕ} → n ≡ room → n ≤ length flow → Flowed M N listed s t w flow flow' → r ≡ Ok (with_written w a) → FlowShown M N room listed s t a r flow flow'
  flow-shown e h f er =
      record {
        amounts = f.amounts;
        right = f.right;
        refused = λ g. absurd (omega arith);
        written = λ _. (er ∙ ap (λ (n : ℕ). Ok (with_written n a)) f.filled.count, f.filled.bytes);
      }

-- what is shown of a pair that is not kept
module _ {M N : Table} {s t : ℕ} {tree tree' : List ℕ} {a : Answer} where
  pub tree-refused : {e : Refusal} → TreePut M N s t (Err e) tree tree' → TreeShown M N s t a (Err e) tree tree'
  tree-refused p =
      record {
        long = λ h. (cc (p.long h).0, (p.long h).1);
        refused = λ h g. (cc (p.short h g).0, (p.short h g).1);
        written = λ h g. absurd (cc (p.written h g).0);
      }

  pub tree-shown : {len : ℕ} {r : Answer} → TreePut M N s t (Ok len) tree tree' → r ≡ with_written len a → TreeShown M N s t a (Ok r) tree tree'
  tree-shown p e =
      record {
        long = λ h. absurd (cc (p.long h).0);
        refused = λ h g. absurd (cc (p.short h g).0);
        written = λ h g. (cc ((p.written h g).0, e), (p.written h g).1);
      }
