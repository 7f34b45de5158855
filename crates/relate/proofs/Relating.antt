-- A transition of each table, compared: what the rows between their targets and the flow kernel ask, and what the rows say.
-- Assumes nothing.
use Rattle.form.specs.declared.tables.Tables.{Tables}
use mathlib.Core.Path.{◌≡◌, refl, sym, ap, subst, subst₂}
use mathlib.Core.List.{List}
use Prim.Native.Nat.{ℕ, suc, pred, ◌≤◌, ◌<◌}
use native.Mathlib.Omega.{arith}
use lib.ListN.{length, get_or}
use Rattle.simulation.specs.Limits.{most_pairs, most_states}
use Rattle.relation.specs.Rows.{height}
use Rattle.simulation.specs.Fit.{Positive, total}
use Rattle.simulation.specs.Table.{Transition, Table, weights, targets, states_of}
use Rattle.simulation.specs.Round.{between, round}
use Rattle.relation.specs.Related.{holds}
use Rattle.relate.specs.Rows.{Indexed, Rows}
use Rattle.relate.proofs.Laws.{indexed, rows-round}
use Rattle.form.specs.Form.{transitions_of}
use Rattle.form.specs.Tables.{first_form, second_form, first_table, contract_table, first_step, second_step}
use Rattle.form.proofs.FormLaws.{limited_at, targets-length}
use Rattle.form.proofs.Contract.{contract-states}
use Rattle.matrix.specs.Problem.{Given}
use Rattle.relate.specs.Ranked.{RanksRight}
use Rattle.relate.proofs.Places.{few_places, targets-count, target-state, weights-count, weights-positive}

module _ {tables : Tables} {ranks : List ℕ} (j k : ℕ) (g : RanksRight tables ranks) (from_First : j < transitions_of (first_form tables)) (from_Second : k < transitions_of (second_form tables)) where
  abbrev M : Table
  M = first_table tables

  abbrev N : Table
  N = contract_table tables

  abbrev m : Transition
  m = first_step tables j

  abbrev n : Transition
  n = second_step tables k

  -- a target of the second table is a state of the contract
  contract-state : (nt : List ℕ) → nt ≡ targets n → (i : ℕ) → i < length nt → get_or nt i 0 < states_of N
  contract-state nt en i b = omega (arith, contract-states tables, target-state (second_form tables) k g.loaded.second from_Second nt en i b)

  -- what the rows ask
  module _ {mt nt : List ℕ} (em : mt ≡ targets m) (en : nt ≡ targets n) where
    pub rows_asked : {width : ℕ} (rel : List ℕ) → width ≡ states_of N → length (targets m) ≤ height rel
        → (length nt ≤ most_states) × (length mt ≤ height rel) × ((i : ℕ) → i < length mt → Indexed ranks width (get_or mt i 0) nt)
    rows_asked rel ew er = (
      omega (arith, few_places (second_form tables) k g.loaded.second from_Second, targets-count (second_form tables) k g.loaded.second from_Second nt en),
      omega (arith, ap length em),
      λ i lt.
          subst (λ (d : ℕ). Indexed ranks d (get_or mt i 0) nt) (sym ew)
          (indexed M N ranks g.ranked g.enough (get_or mt i 0) nt (target-state (first_form tables) j g.loaded.first from_First mt em i lt) (contract-state nt en)),
    )

    pub rows-found : {width r : ℕ} {rel rel' : List ℕ} → width ≡ states_of N → Rows ranks width r mt nt rel rel' → Rows ranks (states_of N) r (targets m) (targets n) rel rel'
    rows-found {width} {r} {rel} {rel'} ew w =
        subst (λ (d : ℕ). Rows ranks d r (targets m) (targets n) rel rel') ew (subst₂ (λ (a b : List ℕ). Rows ranks width r a b rel rel') em en w)

  -- what the flow kernel and the cut ask
  module _ {ws vs : List ℕ} (ew : ws ≡ weights m) (ev : vs ≡ weights n) where
    pub kernel_asked : (rel amounts : List ℕ) → length m.entries ≤ height rel → most_pairs ≤ length amounts → Given ws vs rel amounts
    kernel_asked rel amounts er ea =
        record {
          few_rows = omega (arith, few_places (first_form tables) j g.loaded.first from_First, weights-count (first_form tables) j g.loaded.first from_First ws ew);
          few_columns = omega (arith, few_places (second_form tables) k g.loaded.second from_Second, weights-count (second_form tables) k g.loaded.second from_Second vs ev);
          masks = omega (arith, weights-count (first_form tables) j g.loaded.first from_First ws ew);
          cells = ea;
          total_ws = omega (arith, ap total ew, (limited_at (first_form tables) g.loaded.first j from_First).total-small);
          total_vs = omega (arith, ap total ev, (limited_at (second_form tables) g.loaded.second k from_Second).total-small);
        }

    pub positive-weights : Positive ws × Positive vs
    positive-weights = (weights-positive (first_form tables) j g.loaded.first from_First ws ew, weights-positive (second_form tables) k g.loaded.second from_Second vs ev)

  -- what the rows say of the round before round r
  first_states : (i : ℕ) → i < length (targets m) → get_or (targets m) i 0 < states_of M
  first_states = target-state (first_form tables) j g.loaded.first from_First (targets m) refl

  second_states : (i : ℕ) → i < length (targets n) → get_or (targets n) i 0 < states_of N
  second_states = contract-state (targets n) refl

  module _ {rel rel' : List ℕ} where
    pub related-round : (r : ℕ) → 0 < r → Rows ranks (states_of N) r (targets m) (targets n) rel rel'
        → (i l : ℕ) → i < length m.entries → l < length n.entries → holds rel' i l ≡ between (round M N (pred r)) m n i l
    related-round r p w i l a b =
        let e : r ≡ suc (pred r) = omega arith in
        rows-round M N ranks g.ranked (targets m) (targets n) rel rel' first_states second_states (pred r)
        (subst (λ (q : ℕ). Rows ranks (states_of N) q (targets m) (targets n) rel rel') e w) i l
        (omega (arith, targets-length m)) (omega (arith, targets-length n))
