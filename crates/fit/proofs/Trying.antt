-- What is known of transitions tried before, and what is lent for work.
-- Assumes nothing.
use Rattle.form.specs.declared.tables.Tables.{Tables}
use mathlib.Core.Path.{◌≡◌, refl, sym, ap, ◌∙◌, subst₂}
use mathlib.Core.Bool.{Bool, true, false}
use mathlib.Core.List.{List}
use mathlib.Core.Logic.{⊎_elim}
use Prim.Native.Nat.{ℕ, ◌+◌, ◌-◌, ◌*◌, ◌≤◌, ◌<◌}
use native.Mathlib.Omega.{arith}
use native.Mathlib.Decide.{ℕ_discrete}
use borrow.Author.Tests.{eqb-true, eqb-false}
use lib.Dec.{eqb}
use lib.ListN.{length, get_or, set, length-set}
use lib.Seq.{get_or-set_same, get_or-set_other}
use Rattle.simulation.specs.Limits.{most_states, most_transitions}
use Rattle.simulation.specs.Table.{states_of}
use Rattle.simulation.specs.Round.{related}
use Rattle.simulation.proofs.Finite.Tests.{last_or_below}
use Rattle.simulation.proofs.Fit.Quick.{fits_step-less}
use Rattle.form.specs.Form.{Loaded, start_of, transitions_of, table_of}
use Rattle.form.specs.Tables.{first_form, second_form, second_table, first_step, second_step, BothLoaded}
use Rattle.form.proofs.FormLaws.{limits, start-bound}
use Rattle.word.proofs.Mask.{below_or_not}
use Rattle.decision.specs.Fitting.{relation_of, fitting, Asked}
use Rattle.fit.specs.Held.{fits_step_at}
use Rattle.fit.specs.Known.{Lent, Tried}
use Rattle.fit.proofs.Codes.{other-code, same_code}

-- lengths are all that is asked of what is lent for work
pub lent-all : {tables : Tables} {sets rows amounts rows' amounts' : List ℕ} → Lent tables sets rows amounts → length rows' ≡ length rows → length amounts' ≡ length amounts → Lent tables sets rows' amounts'
lent-all l a b =
    record {
      loaded = l.loaded;
      target_sets = l.target_sets;
      rows_room = omega (arith, l.rows_room);
      amounts_room = omega (arith, l.amounts_room);
    }

pub lent_again : {tables : Tables} {sets rows amounts amounts' : List ℕ} → Lent tables sets rows amounts → length amounts' ≡ length amounts → Lent tables sets rows amounts'
lent_again l a = lent-all l refl a

-- what is lent, and two transitions
pub lent_asked : {tables : Tables} {sets rows amounts : List ℕ} → Lent tables sets rows amounts → (j l : ℕ) → j < transitions_of (first_form tables) → l < transitions_of (second_form tables) → Asked tables rows amounts j l
lent_asked h j l a b = record { loaded = h.loaded; rows_room = h.rows_room; amounts_room = h.amounts_room; from_first = a; from_second = b }

-- what was tried in a relation was tried in a smaller one
pub tried-less : {tables : Tables} {rows rows' tried : List ℕ} → ((s t : ℕ) → related (relation_of tables rows') s t ≡ true → related (relation_of tables rows) s t ≡ true)
    → Tried tables rows tried → Tried tables rows' tried
tried-less {tables} {rows} {rows'} less h =
    record {
      room = h.room;
      passed = λ j t l a b c d.
          fits_step-less (relation_of tables rows) (relation_of tables rows') (first_step tables j) (second_step tables (start_of (second_form tables) t + l)) less
          (h.passed j t l a b c d);
    }

-- zeros count nothing
pub none_tried : {tables : Tables} {rows tried : List ℕ} → (transitions_of (first_form tables) + 1) * most_states ≤ length tried → ((i : ℕ) → get_or tried i 0 ≡ 0) → Tried tables rows tried
none_tried room zero_at = record { room = room; passed = λ j t l a b c d. absurd (omega (arith, zero_at ((j + 1) * most_states + t))) }

module _ {tables : Tables} {rows tried : List ℕ} (loaded : BothLoaded tables) (h : Tried tables rows tried) where
  -- each pair of a transition and a state has its place
  pub place-room : (j t : ℕ) → j < transitions_of (first_form tables) → t < states_of (second_table tables) → (j + 1) * most_states + t < length tried
  place-room j t a b = omega (arith, h.room, (limits (first_form tables) loaded.first).transitions-few, (limits (second_form tables) loaded.second).states-few)

  -- a guess has its place, and counts for nothing
  pub guess_room : (t : ℕ) → t < states_of (second_table tables) → t < length tried
  guess_room t b = omega (arith, h.room, (limits (second_form tables) loaded.second).states-few)

pub tried_guess : {tables : Tables} {rows tried : List ℕ} → Tried tables rows tried → (t n : ℕ) → t < most_states → Tried tables rows (set tried t n)
tried_guess {tried = tried} h t n few =
    record {
      room = omega (arith, h.room, length-set tried t n);
      passed = λ k u l a b c d. h.passed k u l a b (omega (arith, get_or-set_other tried t ((k + 1) * most_states + u) n 0 (λ e. omega arith))) d;
    }

-- the start of a state's transitions
pub start-few : (g : List ℕ) → Loaded g → (t : ℕ) → t ≤ states_of (table_of g) → start_of g t ≤ most_transitions
start-few g loaded t a = omega (arith, start-bound g loaded t a, (limits g loaded).transitions-few)

-- of the transitions of the state t, those before l are not fitted by the transition j
abbrev pub Unfitted : (tables : Tables) (rows : List ℕ) (j t l : ℕ) → Type 0
Unfitted tables rows j t l = (k : ℕ) → start_of (second_form tables) t ≤ k → k < l → k < start_of (second_form tables) (t + 1) → fits_step_at tables rows j k ≡ false

module _ (tables : Tables) (rows : List ℕ) (j t : ℕ) where
  abbrev starts : ℕ → ℕ
  starts = start_of (second_form tables)

  -- a search begins behind those tried
  pub unfitted_start : {tried : List ℕ} {l : ℕ} → Tried tables rows tried → j < transitions_of (first_form tables) → t < states_of (second_table tables)
      → l ≡ starts t + get_or tried ((j + 1) * most_states + t) 0 → Unfitted tables rows j t l
  unfitted_start h a b e k from to end =
      let x : starts t + (k - starts t) ≡ k = omega arith in
      rw x at (h.passed j t (k - starts t) a b (omega arith) (omega arith))

  pub unfitted_next : {l : ℕ} {r : Bool} → Unfitted tables rows j t l → r ≡ fits_step_at tables rows j l → r ≡ false → Unfitted tables rows j t (l + 1)
  unfitted_next {l} h e w k from to end =
      ⊎_elim (λ q. ap (fits_step_at tables rows j) q ∙ sym e ∙ w) (λ v. h k from v end) (last_or_below k l (omega arith))

  -- a transition with another code is passed, and one with the same code fits as its targets do
  module _ {c : ℕ} (code : c ≡ (first_step tables j).code) where
    pub unfitted_coded : {l r : ℕ} → ((k : ℕ) → l ≤ k → k < r → eqb c (second_step tables k).code ≡ false) → Unfitted tables rows j t l → Unfitted tables rows j t r
    unfitted_coded {l} passed h k from to bound =
        ⊎_elim (λ b. h k from b bound)
        (λ b. sym (other-code (relation_of tables rows) (first_step tables j) (second_step tables k) (λ e. eqb-false c (second_step tables k).code (passed k b to) (code ∙ e))))
        (below_or_not k l)

    pub fits-coded : (l : ℕ) → eqb c (second_step tables l).code ≡ true → {b : Bool} → b ≡ fitting tables rows j l → b ≡ fits_step_at tables rows j l
    fits-coded l same = same_code (relation_of tables rows) (first_step tables j) (second_step tables l) (sym code ∙ eqb-true c (second_step tables l).code same)

  -- where it ends, those passed are counted
  module _ (loaded : BothLoaded tables) (own : j < transitions_of (first_form tables)) (within : t < states_of (second_table tables)) (tried : List ℕ) (n : ℕ) (h : Tried tables rows tried)
      (none : Unfitted tables rows j t (starts t + n)) where
    abbrev place : ℕ → ℕ → ℕ
    place k u = (k + 1) * most_states + u

    counted : (k u l : ℕ) → k < transitions_of (first_form tables) → u < states_of (second_table tables) → l < get_or (set tried (place j t) n) (place k u) 0 → starts u + l < starts (u + 1)
        → Dec (place k u ≡ place j t) → fits_step_at tables rows k (starts u + l) ≡ false
    counted k u l a b c d (yes e) =
        let few = (limits (second_form tables) loaded.second).states-few in
        let x : k ≡ j = omega arith in
        let y : u ≡ t = omega arith in
        let s : l < n = omega (arith, get_or-set_same tried (place j t) n 0 (place-room loaded h j t own within), ap (λ (i : ℕ). get_or (set tried (place j t) n) i 0) e) in
        subst₂ (λ (k u : ℕ). starts u + l < starts (u + 1) → fits_step_at tables rows k (starts u + l) ≡ false) (sym x) (sym y)
        (λ v. none (starts t + l) (omega arith) (omega arith) v) d
    counted k u l a b c d (no e) = h.passed k u l a b (omega (arith, get_or-set_other tried (place j t) (place k u) n 0 e)) d

    pub tried-next : Tried tables rows (set tried ((j + 1) * most_states + t) n)
    tried-next =
        record {
          room = omega (arith, h.room, length-set tried (place j t) n);
          passed = λ k u l a b c d. counted k u l a b c d (ℕ_discrete (place k u) (place j t));
        }
