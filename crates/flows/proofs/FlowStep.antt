-- The flow of one transition: what its writer is asked, and what it leaves.
-- Assumes nothing.
use Rattle.form.specs.declared.tables.Tables.{Tables}
use mathlib.Core.Path.{◌≡◌, sym, ◌∙◌, ap, subst, subst₂}
use mathlib.Core.List.{List}
use Prim.Native.Nat.{ℕ, ◌+◌, ◌*◌, ◌≤◌, ◌<◌}
use native.Mathlib.Nat.{mul-le-mul_left}
use native.Mathlib.Omega.{arith}
use lib.ListN.{length, get_or}
use Rattle.simulation.specs.Limits.{most_states, most_pairs}
use Rattle.simulation.specs.Table.{Transition, Table, targets, states_of, steps, transition}
use Rattle.simulation.specs.Round.{Relation}
use Rattle.simulation.proofs.Complete.Tables.{complete-steps, complete-listed, by_place}
use Rattle.form.specs.Valid.{Distribution}
use Rattle.form.specs.Form.{Loaded, table_of, start_of, transitions_of, transition_at}
use Rattle.form.specs.Tables.{first_form, second_form, first_table, second_table, contract_table, listed_steps, first_step, second_step, BothLoaded}
use Rattle.form.proofs.Sound.{few-targets}
use Rattle.form.proofs.FormLaws.{limits, limited_at, targets-length, distribution_of, distribution-at, transition-number, transition_of}
use Rattle.matrix.specs.Matrix.{cell}
use Rattle.buffer.specs.Buffer.{Filled}
use Rattle.decision.specs.Fitting.{relation_of, SharesIn}
use Rattle.fit.specs.Partner.{place, Sought, FirstFit}
use Rattle.flows.specs.Flow.{kept_relation, flow_of, named_place, one_flow, step_room}
use Rattle.flows.specs.FlowSteps.{Records, KeptIn, Shown}
use Rattle.flows.proofs.FlowPlace.{named_listed, place-before}

-- targets are states, of which there are at most most-states
pub target-byte : (f : List ℕ) → Loaded f → (j : ℕ) → j < transitions_of f → (k : ℕ) → k < length (targets (transition_at f j))
    → get_or (targets (transition_at f j)) k 0 < 256
target-byte f l j h k lt = omega (arith, (distribution-at f l j h).in_range k (omega (arith, targets-length (transition_at f j))), (limits f l).states-few)

-- at most as many targets as states
few_of : {q : ℕ} (m : Transition) → Distribution q m → length (targets m) ≤ q
few_of {q} m d = omega (arith, few-targets q m d, targets-length m)

-- in the contract too: an added transition has one target
module _ {tables : Tables} (l : BothLoaded tables) (t k : ℕ) where
  pub few-contract : k < length (steps (contract_table tables) t) → length (targets (transition (contract_table tables) t k)) ≤ states_of (second_table tables)
  few-contract =
      by_place (first_table tables).codes (second_table tables) (λ t m. length (targets m) ≤ states_of (second_table tables))
      (λ t k b. few_of (transition (second_table tables) t k) (distribution_of (second_form tables) l.second t k b)) (λ t c a _. omega arith) t k

-- so the flow of m over n has room
pub room-enough : {q : ℕ} (m n : Transition) → length (targets n) ≤ q → 3 + length (targets m) * (length (targets n) * 6) ≤ step_room q (length m.entries)
room-enough {q} m n h =
    let a = targets-length m in
    let b : 6 * length m.entries * length (targets n) ≤ 6 * length m.entries * q = mul-le-mul_left (6 * length m.entries) h in
    let c : length (targets m) * (length (targets n) * 6) ≡ 6 * length m.entries * length (targets n) = ap (λ (p : ℕ). p * (length (targets n) * 6)) a ∙ omega arith in
    omega arith

-- one target takes no more than all states do
pub room-one : {t q : ℕ} (n : ℕ) → t < q → step_room 1 n ≤ step_room q n
room-one {t} {q} n h = let one : 1 ≤ q = omega arith in omega (arith, mul-le-mul_left (6 * n) one)

-- what the records of a transition are asked
pub records_from : {f nt x : List ℕ} {j : ℕ} → Loaded f → j < transitions_of f → length nt ≤ most_states → ((k : ℕ) → k < length nt → get_or nt k 0 < 256) → most_pairs ≤ length x
    → Records (targets (transition_at f j)) nt x
records_from {f} {nt} {x} {j} l h few bytes cells =
    let lm = limited_at f l j h in
    record { rows = omega (arith, lm.few, lm.paired); few = few; sources = target-byte f l j h; targets = bytes; cells = cells }

-- what is written for the transition at the place, by what the place and the transition are
pub shown-at : {M N : Table} {listed t k p w : ℕ} {m n : Transition} {x old new : List ℕ} → place (kept_relation M N) m (steps N t) ≡ k → transition N t k ≡ n
    → named_place listed k ≡ p → SharesIn (kept_relation M N) m n (cell x) → Filled (one_flow p m n (cell x)) w old new → Shown M N listed m t w x old new
shown-at {M} {N} {listed} {t} {k} {p} {w} {m} {n} {x} {old} {new} is at named right put =
    let K = kept_relation M N in
    record {
      shares = subst (λ (k : ℕ). SharesIn K m (transition N t k) (cell x)) (sym is) (subst (λ (n : Transition). SharesIn K m n (cell x)) (sym at) right);
      filled =
          subst (λ (k : ℕ). Filled (one_flow (named_place listed k) m (transition N t k) (cell x)) w old new) (sym is)
          (subst₂ (λ (p : ℕ) (n : Transition). Filled (one_flow p m n (cell x)) w old new) (sym named) (sym at) put);
    }

module _ {tables : Tables} {rows x x' : List ℕ} {j t r : ℕ} (q : Sought tables rows x j t) (found : FirstFit tables rows j t r x') where
  abbrev f : List ℕ
  f = first_form tables

  abbrev g : List ℕ
  g = second_form tables

  abbrev m : Transition
  m = first_step tables j

  module _ {start : ℕ} (e : start ≡ start_of g t) where
    pub step-number : start + r < transitions_of g
    step-number = omega (arith, transition-number g q.loaded.second t r q.state found.below)

    step_is : transition_at g (start + r) ≡ transition (table_of g) t r
    step_is = ap (λ (k : ℕ). transition_at g (k + r)) e ∙ transition_of g q.loaded.second t r q.state found.below

    module _ {mt nt : List ℕ} (em : mt ≡ targets m) (en : nt ≡ targets (second_step tables (start + r))) where
      pub step_asked : {room : ℕ} → length x' ≡ length x → step_room (states_of (table_of g)) (length m.entries) ≤ room
          → (r < 256) × Records mt nt x' × (3 + length mt * (length nt * 6) ≤ room)
      step_asked {room} size h =
          let n = second_step tables (start + r) in
          let ln = limited_at g q.loaded.second (start + r) step-number in (
            omega (arith, step-number, (limits g q.loaded.second).transitions-few),
            subst₂ (λ (l k : List ℕ). Records l k x') (sym em) (sym en)
                (records_from q.loaded.first q.from_first (omega (arith, ln.few, ln.paired)) (target-byte g q.loaded.second (start + r) step-number) (omega (arith, q.amounts_room))),
            subst₂ (λ (l k : List ℕ). 3 + length l * (length k * 6) ≤ room) (sym em) (sym en)
                (omega (arith, room-enough m n (few_of n (distribution-at g q.loaded.second (start + r) step-number)))),
          )

      pub step-shown : {w : ℕ} {old new : List ℕ} → KeptIn tables rows → Filled (flow_of r mt nt (cell x')) w old new
          → Shown (first_table tables) (contract_table tables) (listed_steps tables t) m t w x' old new
      step-shown {w} {old} {new} kept put =
          let N = second_table tables in
          let cs = (first_table tables).codes in
          let R = relation_of tables rows in
          let below : place R m (steps N t) < length (steps N t) = omega (arith, found.is, found.below) in
          let is : place R m (steps (contract_table tables) t) ≡ r = ap (place R m) (complete-steps cs N t q.state) ∙ place-before R m (steps N t) _ below ∙ sym found.is in
          shown-at (sym (ap (λ (R : Relation). place R m (steps (contract_table tables) t)) kept) ∙ is) (complete-listed cs N t r found.below)
          (named_listed (listed_steps tables t) r found.below) (subst (λ (R : Relation). SharesIn R m (transition N t r) (cell x')) kept found.shares)
          (subst₂ (λ (l k : List ℕ). Filled (flow_of r l k (cell x')) w old new) em (en ∙ ap targets step_is) put)
