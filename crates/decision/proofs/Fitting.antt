-- The targets of two transitions, and whether one fits the other.
-- Assumes nothing.
use Rattle.form.specs.declared.tables.Tables.{Tables}
use mathlib.Core.Path.{◌≡◌, sym, ap, ◌∙◌, subst, subst₂}
use mathlib.Core.Bool.{Bool, true, false}
use mathlib.Core.List.{List}
use Prim.Native.Nat.{ℕ, ◌≤◌, ◌<◌}
use native.Mathlib.Omega.{arith}
use borrow.Author.Tests.{eqb-true}
use lib.Dec.{T, eqb}
use lib.ListN.{length}
use Rattle.std.specs.Prelude.{Option, Some, None}
use Rattle.simulation.specs.Limits.{most_states}
use Rattle.simulation.specs.Fit.{total, fits?}
use Rattle.simulation.specs.Table.{Transition, weights, targets, target_at, states_of}
use Rattle.simulation.specs.Round.{Relation, between}
use Rattle.simulation.proofs.Simulation.Relation.{relation-at}
use Rattle.simulation.proofs.Fit.Agree.{Agree, fits_agree}
use Rattle.simulation.proofs.Fit.Quick.{fits_full, misfit_row, misfit_column}
use Rattle.word.specs.Mask.{member}
use Rattle.relation.specs.Rows.{height, HasRows}
use Rattle.relation.specs.Related.{holds}
use Rattle.matrix.specs.Problem.{joins}
use Rattle.form.specs.Valid.{AreStates}
use Rattle.form.specs.Form.{Loaded, transitions_of, transition_at}
use Rattle.form.specs.Tables.{first_form, second_form, first_table, contract_table, first_step, second_step}
use Rattle.form.proofs.FormLaws.{limits, limited_at, distribution-at, positive-at, weights-length, targets-length}
use Rattle.form.proofs.Contract.{contract-states}
use Rattle.transport.specs.Answer.{MaximumFlow}
use Rattle.gather.specs.Places.{Places, Ascending, Gathered}
use Rattle.decision.specs.Fitting.{relation_of, fitting, Asked, SharedOut}
use Rattle.bounds.specs.Quick.{SetOf, RowMissing, Settles, Bounding}

pub targets_ascend : (f : List ℕ) (loaded : Loaded f) (j : ℕ) → j < transitions_of f → Ascending (targets (transition_at f j))
targets_ascend f loaded j b i h = (distribution-at f loaded j b).ascending i (omega (arith, targets-length (transition_at f j)))

-- the targets of a transition of a form
pub places_of : (n : ℕ) (f : List ℕ) (loaded : Loaded f) (j : ℕ) → j < transitions_of f → most_states ≤ n → Places n (targets (transition_at f j))
places_of n f loaded j b room =
    let m = transition_at f j in
    record {
      few = omega (arith, (limited_at f loaded j b).few, (limited_at f loaded j b).paired);
      below = λ i c.
          omega (
            arith,
            (distribution-at f loaded j b).in_range i (omega (arith, targets-length m)),
            (limits f loaded).states-few,
          );
    }

total-at : (f : List ℕ) (loaded : Loaded f) (j : ℕ) → j < transitions_of f → 0 < total (weights (transition_at f j))
total-at f loaded j b = (distribution-at f loaded j b).counted

-- a test as it was told
abbrev pub Tells : Bool → Option Bool → Type 0
Tells b (Some told) = told ≡ b
Tells b None = Unit {0}

module _ {tables : Tables} {rows amounts : List ℕ} {j l : ℕ} (asked : Asked tables rows amounts j l) where
  abbrev R : Relation
  R = relation_of tables rows

  abbrev m : Transition
  m = first_step tables j

  abbrev n : Transition
  n = second_step tables l

  abbrev first : Loaded (first_form tables)
  first = asked.loaded.first

  abbrev second : Loaded (second_form tables)
  second = asked.loaded.second

  -- the targets of the one, and of the other
  pub first_places : Places (height rows) (targets m)
  first_places = places_of (height rows) (first_form tables) first j asked.from_first asked.rows_room

  pub second_places : Places most_states (targets n)
  second_places = places_of most_states (second_form tables) second l asked.from_second (omega arith)

  pub first_rows : {ms : List ℕ} → ms ≡ targets m → HasRows rows ms
  first_rows e = subst (HasRows rows) (sym e) first_places.below

  pub second_states : {ns : List ℕ} → ns ≡ targets n → AreStates ns
  second_states e = subst AreStates (sym e) second_places.below

  first-paired : length (targets m) ≡ length (weights m)
  first-paired = (limited_at (first_form tables) first j asked.from_first).paired

  second-paired : length (targets n) ≡ length (weights n)
  second-paired = (limited_at (second_form tables) second l asked.from_second).paired

  -- the rows between the targets
  related_at : (i k : ℕ) → i < length (weights m) → k < length (weights n) → between R m n i k ≡ holds rows (target_at m i) (target_at n k)
  related_at i k a b =
      relation-at (states_of (first_table tables)) (states_of (contract_table tables)) (holds rows)
      ((distribution-at (first_form tables) first j asked.from_first).in_range i (omega (arith, weights-length m)))
      (omega (arith, contract-states tables, (distribution-at (second_form tables) second l asked.from_second).in_range k (omega (arith, weights-length n))))

  agree : {rel : List ℕ} → Gathered rows (targets m) (targets n) (length (targets m)) rel → Agree (length (weights m)) (length (weights n)) (holds rel) (between R m n)
  agree h i k a b = h.related_at i k (omega (arith, first-paired)) (omega (arith, second-paired)) ∙ sym (related_at i k a b)

  -- a flow over the gathered rows decides, and its amounts are right
  pub shares-between : {ms ns ws vs rel x₀ x : List ℕ} {r : ℕ} {b : Bool} → ms ≡ targets m → ns ≡ targets n → ws ≡ weights m → vs ≡ weights n
      → Gathered rows ms ns (length ms) rel → MaximumFlow ws vs rel x₀ x r → b ≡ eqb r 0 → SharedOut tables rows j l b x
  shares-between {rel = rel} {x₀ = x₀} {x = x} {r = r} p q u v rows_are flow e =
      let told = subst₂ (λ (ws vs : List ℕ). MaximumFlow ws vs rel x₀ x r) u v flow in
      let same = agree (subst₂ (λ (ms ns : List ℕ). Gathered rows ms ns (length ms) rel) p q rows_are) in
      record {
        answer = e ∙ sym told.fit ∙ fits_agree (holds rel) (between R m n) (weights m) (weights n) same;
        shares = λ h.
            let s = told.shares (eqb-true r 0 (sym e ∙ h)) in
            record { support = λ i k a b d. subst T (same i k a b) (s.support i k a b d); sent = s.sent; taken = s.taken };
      }

  -- the weights and targets of the two, under the names that a function has for them
  module _ {ms ws ns vs : List ℕ} (a : ms ≡ targets m) (b : ws ≡ weights m) (c : ns ≡ targets n) (d : vs ≡ weights n) where
    -- a fit over the rows themselves decides
    pub by_sides : {r : Bool} → r ≡ fits? (joins rows ms ns) ws vs → r ≡ fitting tables rows j l
    by_sides {r} e =
        let h : r ≡ fits? (joins rows (targets m) (targets n)) (weights m) (weights n) = rw (a, b, c, d) at e in
        h ∙ fits_agree (joins rows (targets m) (targets n)) (between R m n) (weights m) (weights n) (λ i k u v. sym (related_at i k u v))

  -- sets of targets decide
  module _ {to : ℕ} (set : SetOf (targets n) (length (targets n)) to) where
    target_in : (k : ℕ) → k < length (weights n) → member to (target_at n k) ≡ true
    target_in k b = set.has k (omega (arith, second-paired))

    pub row_misfits : {ms : List ℕ} → ms ≡ targets m → RowMissing rows ms to → false ≡ fitting tables rows j l
    row_misfits e missing =
        let (i, a, h) = subst (λ (ms : List ℕ). RowMissing rows ms to) e missing in
        let c : i < length (weights m) = omega (arith, first-paired) in
        sym (misfit_row (between R m n) (weights m) (weights n) i c (positive-at (first_form tables) first j asked.from_first i c)
        (total-at (second_form tables) second l asked.from_second) (λ k b. related_at i k c b ∙ h (target_at n k) (target_in k b)))

    module _ {some every : ℕ} (h : Bounding rows (targets m) some every) where
      all_fit : Settles some every to (Some true) → true ≡ fitting tables rows j l
      all_fit s =
          sym (fits_full (between R m n) (weights m) (weights n)
          (λ i k a b. related_at i k a b ∙ h.within i (target_at n k) (omega (arith, first-paired)) (s (target_at n k) (target_in k b))))

      column_misfits : Settles some every to (Some false) → false ≡ fitting tables rows j l
      column_misfits (u, t, o) =
          let w = set.only u t in
          let c : w.0 < length (weights n) = omega (arith, w.1, second-paired) in
          sym (misfit_column (between R m n) (weights m) (weights n) w.0 c (positive-at (second_form tables) second l asked.from_second w.0 c)
          (total-at (first_form tables) first j asked.from_first)
          (λ i a. related_at i w.0 a c ∙ ap (holds rows (target_at m i)) w.2 ∙ h.others i u (omega (arith, first-paired)) o))

      pub by_sets : (r : Option Bool) → Settles some every to r → Tells (fitting tables rows j l) r
      by_sets (Some true) s = all_fit s
      by_sets (Some false) s = column_misfits s
      by_sets None s = tt
