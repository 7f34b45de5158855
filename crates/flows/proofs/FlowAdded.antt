-- How the contract answers a transition of the first table: by one that the second table lists, or by an added one, to which each target sends its weight.
-- Assumes nothing.
use Rattle.form.specs.declared.tables.Tables.{Tables}
use mathlib.Core.Path.{◌≡◌, sym, ◌∙◌, ap, subst}
use mathlib.Core.Bool.{true}
use mathlib.Core.List.{List, [], ◌∷◌}
use mathlib.Core.Logic.{⊎_elim}
use Prim.Native.Nat.{ℕ, ◌+◌, ◌*◌, ◌≤◌, ◌<◌}
use native.Mathlib.Nat.{not-suc-le-zero}
use native.Mathlib.Omega.{arith}
use lib.Dec.{T}
use lib.ListN.{length, get_or, set}
use lib.Seq.{get_or-set_same, get_or-set_other}
use Rattle.simulation.specs.Limits.{most_states, most_pairs}
use Rattle.simulation.specs.Sum.{any_of}
use Rattle.simulation.specs.Fit.{weight, Amounts, Shares}
use Rattle.simulation.specs.Table.{Transition, weights, targets, steps, no_transition, transition}
use Rattle.simulation.specs.Round.{Relation, fits_step}
use Rattle.simulation.specs.Complete.{lists, self_loop, all_related}
use Rattle.simulation.proofs.Finite.Sums.{sum_ext}
use Rattle.simulation.proofs.Finite.Tests.{last_or_below, below_one, true_T}
use Rattle.simulation.proofs.Finite.Lists.{any_of-at}
use Rattle.simulation.proofs.Simulation.Steps.{fits_step-code}
use Rattle.simulation.proofs.Complete.Loops.{all_related-at, loop-flow}
use Rattle.form.specs.Form.{Loaded, transitions_of, transition_at}
use Rattle.form.specs.Tables.{first_table, second_table, contract_table, listed_steps, first_step}
use Rattle.form.proofs.FormLaws.{weights-length}
use Rattle.form.proofs.Contract.{loop_of, answered-added, answered-listed}
use Rattle.matrix.specs.Matrix.{cell}
use Rattle.buffer.specs.Buffer.{Filled}
use Rattle.decision.specs.Fitting.{relation_of, SharesIn}
use Rattle.fit.specs.Partner.{place, Sought}
use Rattle.fit.proofs.Partner.{place-fits}
use Rattle.flows.specs.Flow.{kept_relation, added_place, one_flow}
use Rattle.flows.specs.FlowSteps.{Records, KeptIn, Answered, Shown}
use Rattle.flows.proofs.FlowPlace.{named_added}
use Rattle.flows.proofs.FlowStep.{records_from, shown-at}

-- the first n weights are sent: they stand in column 0
abbrev pub Sent : (ws : List ℕ) (n : ℕ) (x : List ℕ) → Type 0
Sent ws n x = (i : ℕ) → i < n → cell x i 0 ≡ get_or ws i 0

module _ (ws x : List ℕ) where
  pub sent-none : Sent ws 0 x
  sent-none i b = absurd (not-suc-le-zero b)

  pub sent-next : (n : ℕ) → n * most_states < length x → Sent ws n x → Sent ws (n + 1) (set x (n * most_states) (get_or ws n 0))
  sent-next n room h i b = ⊎_elim last before (last_or_below i n (omega arith))
    where
      last : i ≡ n → cell (set x (n * most_states) (get_or ws n 0)) i 0 ≡ get_or ws i 0
      last e =
          let at : i * most_states + 0 ≡ n * most_states = omega arith in
          ap (λ (k : ℕ). get_or (set x (n * most_states) (get_or ws n 0)) k 0) at ∙ get_or-set_same x (n * most_states) (get_or ws n 0) 0 room ∙ ap (λ (k : ℕ). get_or ws k 0) (sym e)

      before : i < n → cell (set x (n * most_states) (get_or ws n 0)) i 0 ≡ get_or ws i 0
      before c = get_or-set_other x (n * most_states) (i * most_states + 0) (get_or ws n 0) 0 (λ e. omega arith) ∙ h i c

-- amounts that agree with right ones are right
shares_ext : {P : ℕ → ℕ → Type 0} {ws vs : List ℕ} {x : Amounts} (y : Amounts) → ((i j : ℕ) → i < length ws → j < length vs → y i j ≡ x i j)
    → Shares P ws vs x → Shares P ws vs y
shares_ext {P} {ws} {vs} {x} y e h =
    record {
      support = λ i j a b n. h.support i j a b (λ z. n (e i j a b ∙ z));
      sent = λ i a. sum_ext (length vs) (y i) (x i) (λ j b. e i j a b) ∙ h.sent i a;
      taken = λ j b. sum_ext (length ws) (λ i. y i j) (λ i. x i j) (λ i a. e i j a b) ∙ h.taken j b;
    }

-- weights sent to a state that all targets are related to are right amounts
sent-shares : (R : Relation) (m : Transition) (t c : ℕ) (x : List ℕ) → T (all_related R m t) → Sent (weights m) (length (weights m)) x
    → SharesIn R m (self_loop t c) (cell x)
sent-shares R m t c x related h =
    shares_ext (cell x) (λ i j a. below_one (λ (j : ℕ). cell x i j ≡ weight (weights m) i) (h i a) j) (loop-flow _ (weights m) (all_related-at R m t c related))

-- what is asked of the records over one target
pub records_one : {f mt x : List ℕ} {j u : ℕ} → Loaded f → j < transitions_of f → mt ≡ targets (transition_at f j) → u < 256 → most_pairs ≤ length x → Records mt (u ∷ []) x
records_one {x = x} {u = u} l own e small cells =
    subst (λ (mt : List ℕ). Records mt (u ∷ []) x) (sym e) (records_from l own (omega arith) (below_one (λ (k : ℕ). get_or (u ∷ []) k 0 < 256) small) cells)

module _ {tables : Tables} {rows x : List ℕ} {j t : ℕ} (q : Answered tables rows x j t) where
  abbrev m : Transition
  m = first_step tables j

  -- a code that the second table lists is answered by its own transitions
  pub listed_sought : T (lists (second_table tables).codes m.code) → Sought tables rows x j t
  listed_sought h =
      record {
        loaded = q.loaded;
        rows_room = q.rows_room;
        amounts_room = q.amounts_room;
        from_first = q.from_first;
        state = q.state;
        some = any_of-at (fits_step (relation_of tables rows) m) no_transition (steps (second_table tables) t) (true_T (sym (answered-listed tables m t h (relation_of tables rows)) ∙ q.some));
      }

  -- another code by the one transition that is added for it
  pub added-shown : {y old new : List ℕ} {w : ℕ} → ¬ T (lists (second_table tables).codes m.code) → KeptIn tables rows → Sent (weights m) (length m.entries) y
      → Filled (one_flow added_place m (self_loop t m.code) (cell y)) w old new → Shown (first_table tables) (contract_table tables) (listed_steps tables t) m t w y old new
  added-shown {y} missing kept sent put =
      let K = kept_relation (first_table tables) (contract_table tables) in
      let ns = steps (contract_table tables) t in
      let loop = loop_of tables q.loaded j t q.from_first q.state missing in
      let some : any_of (fits_step K m) ns ≡ true = subst (λ (R : Relation). any_of (fits_step R m) ns ≡ true) kept q.some in
      let r = any_of-at (fits_step K m) no_transition ns (true_T some) in
      let found = place-fits K m ns r.0 r.1 r.2 in
      let is : place K m ns ≡ loop.place = loop.only (place K m ns) found.0 (sym (fits_step-code K m (transition (contract_table tables) t (place K m ns)) found.1)) in
      let related : T (all_related K m t) = true_T (sym (answered-added tables q.loaded j t q.from_first q.state missing K) ∙ some) in
      shown-at is loop.is (named_added (listed_steps tables t) loop.place loop.after) (sent-shares K m t m.code y related (λ i a. sent i (omega (arith, weights-length m)))) put
