-- The search for the first transition of a state that a transition fits, of which there is one.
-- Assumes nothing.
use Rattle.form.specs.declared.tables.Tables.{Tables}
use mathlib.Core.Path.{◌≡◌, refl, sym, ap, ◌∙◌, subst}
use mathlib.Core.Bool.{Bool, true, false, cond}
use mathlib.Core.List.{List, [], ◌∷◌}
use mathlib.Core.Logic.{⊎_elim}
use Prim.Native.Nat.{ℕ, zero, suc, ◌+◌, ◌-◌, ◌≤◌, ◌<◌, zero-le, suc-le-suc}
use native.Mathlib.Nat.{not-suc-le-zero, le_of_suc-le-suc}
use native.Mathlib.Omega.{arith}
use borrow.Author.Tests.{eq-eqb, ne_eqb}
use lib.Dec.{T, eqb}
use lib.ListN.{length, get_or}
use Rattle.std.specs.Prelude.{Option, Some, None, MatchOption, is_some}
use Rattle.std.specs.List.{AllWithin, HoldsAt, range_with_len}
use Rattle.std.proofs.lemmas.List.FromFn.{length-range_with_len, get_or-range_with_len}
use Rattle.form.specs.Tables.{second_step}
use Rattle.simulation.specs.Table.{Transition, states_of, steps, no_transition, transition}
use Rattle.simulation.specs.Round.{Relation, fits_step}
use Rattle.word.proofs.Mask.{below_or_not}
use Rattle.matrix.specs.Matrix.{cell}
use Rattle.form.specs.Form.{start_of, transitions_of}
use Rattle.form.specs.Tables.{second_form, second_table, first_step, BothLoaded}
use Rattle.form.proofs.FormLaws.{counts, starts_ascend, start-bound, transition_of, transition_numbered}
use Rattle.decision.specs.Fitting.{relation_of, Asked, SharesIn, SharedOut}
use Rattle.fit.specs.Held.{fits_step_at, coded}
use Rattle.fit.specs.Partner.{NextCoded, place, Sought, FirstFit}
use Rattle.fit.proofs.Steps.{one_passes, none_passes}
use Rattle.fit.proofs.Trying.{Unfitted}

module _ (R : Relation) (m : Transition) where
  -- what the place is, as the first transition of the list fits or not
  placed : (n : Transition) (ns : List Transition) (b : Bool) → fits_step R m n ≡ b → place R m (n ∷ ns) ≡ cond b 0 (suc (place R m ns))
  unfolding place
  placed n ns b e = ap (λ (b : Bool). cond b 0 (suc (place R m ns))) e

  -- where one fits, the one at the place does
  pub place-fits : (ns : List Transition) (l : ℕ) → l < length ns → T (fits_step R m (get_or ns l no_transition))
      → (place R m ns < length ns) × T (fits_step R m (get_or ns (place R m ns) no_transition))
  place-fits [] l b h = absurd (not-suc-le-zero b)
  place-fits (n ∷ ns) l b h = go l b h (place-fits ns) (fits_step R m n) refl
    where
      Fitted : List Transition → ℕ → Type 0
      Fitted ns k = (k < length ns) × T (fits_step R m (get_or ns k no_transition))

      go : (l : ℕ) → l < suc (length ns) → T (fits_step R m (get_or (n ∷ ns) l no_transition))
          → ((l : ℕ) → l < length ns → T (fits_step R m (get_or ns l no_transition)) → Fitted ns (place R m ns))
          → (c : Bool) → fits_step R m n ≡ c → Fitted (n ∷ ns) (place R m (n ∷ ns))
      go l b h later true e = subst (Fitted (n ∷ ns)) (sym (placed n ns true e)) (suc-le-suc zero-le, subst T (sym e) tt)
      go zero b h later false e = absurd (subst T e h)
      go (suc l) b h later false e = let r = later l (le_of_suc-le-suc b) h in subst (Fitted (n ∷ ns)) (sym (placed n ns false e)) (suc-le-suc r.0, r.1)

  -- one that fits, with none before it that does, is the one at the place
  pub place_is : (ns : List Transition) (k : ℕ) → k < length ns → ((i : ℕ) → i < k → fits_step R m (get_or ns i no_transition) ≡ false)
      → fits_step R m (get_or ns k no_transition) ≡ true → place R m ns ≡ k
  place_is [] k b h x = absurd (not-suc-le-zero b)
  place_is (n ∷ ns) zero b h x = placed n ns true x
  place_is (n ∷ ns) (suc k) b h x =
      placed n ns false (h 0 (suc-le-suc zero-le)) ∙ ap suc (place_is ns k (le_of_suc-le-suc b) (λ i c. h (suc i) (suc-le-suc c)) x)

-- what an iterator finds over the numbers from l on and before the end
module _ (tables : Tables) (c l end : ℕ) where
  abbrev numbers : List ℕ
  numbers = range_with_len l (end - l)

  abbrev pub HasCode : ℕ → Type 0
  HasCode k = (second_step tables k).code ≡ c

  abbrev pub Other : ℕ → Type 0
  Other k = ¬ HasCode k

  passed_by : (n r : ℕ) → n ≤ end - l → r ≤ l + n → AllWithin Other numbers 0 n → (k : ℕ) → l ≤ k → k < r → eqb c (second_step tables k).code ≡ false
  passed_by n r le to others k from below =
      let here : get_or numbers (k - l) 0 ≡ k = get_or-range_with_len l (end - l) (k - l) 0 (omega arith) ∙ omega arith in
      ne_eqb c (second_step tables k).code (λ e. (rw here at (others (k - l) 0 zero-le (omega arith))) (sym e))

  pub first_coded : (r : Option ℕ)
      → MatchOption r (AllWithin Other numbers 0 (length numbers)) (λ x. HasCode x × (i : ℕ) × (i < length numbers) × HoldsAt (λ y. y ≡ x) numbers i × AllWithin Other numbers 0 i)
      → NextCoded tables c l end r
  first_coded (Some x) h =
      let (here, i, lt, at, before) = h in
      let few : i < end - l = omega (arith, length-range_with_len l (end - l)) in
      let place : x ≡ l + i = sym (at 0) ∙ get_or-range_with_len l (end - l) i 0 few in
      record {
        from = omega arith;
        to = omega arith;
        passed = passed_by i x (omega arith) (omega arith) before;
        found = eq-eqb c (second_step tables x).code (sym here);
      }
  first_coded None others =
      passed_by (length numbers) end (omega (arith, length-range_with_len l (end - l))) (omega (arith, length-range_with_len l (end - l))) others

-- a search over the transitions of the state t
module _ {tables : Tables} {t start end : ℕ} (loaded : BothLoaded tables) (state : t < states_of (second_table tables)) (begin : start ≡ start_of (second_form tables) t)
    (stop : end ≡ start_of (second_form tables) (t + 1)) where
  -- what it asks
  pub search_begins : BothLoaded tables × (start ≤ end) × (end ≤ transitions_of (second_form tables))
  search_begins =
      let g = second_form tables in
      (loaded, omega (arith, starts_ascend g loaded.second t (t + 1) (omega arith) (omega arith)), omega (arith, start-bound g loaded.second (t + 1) (omega arith)))

  pub search_asked : BothLoaded tables × (end ≤ transitions_of (second_form tables))
  search_asked = (loaded, search_begins.2)

  -- what it answers
  pub search_answers : (c : ℕ) (r : Option ℕ) → NextCoded tables c start end r → is_some r ≡ coded c (steps (second_table tables) t)
  search_answers c (Some r) next =
      one_passes (second_form tables) loaded.second t state (λ n. eqb c n.code) r (omega (arith, next.from)) (omega (arith, next.to)) refl next.found
  search_answers c None passed =
      none_passes (second_form tables) loaded.second t state (λ n. eqb c n.code) (λ k a b. passed k (omega arith) (omega arith))

-- a search that has come to l, and has found none
module _ {tables : Tables} {rows amounts : List ℕ} {j t l : ℕ} (q : Sought tables rows amounts j t) (from : start_of (second_form tables) t ≤ l) (none : Unfitted tables rows j t l) where
  abbrev start : ℕ
  start = start_of (second_form tables) t

  next_start : start_of (second_form tables) (t + 1) ≡ start + length (steps (second_table tables) t)
  next_start = counts (second_form tables) q.loaded.second t q.state

  -- none of the transitions before it fits, by their places in t
  passed-at : (k : ℕ) → k < length (steps (second_table tables) t) → start + k < l
      → fits_step (relation_of tables rows) (first_step tables j) (transition (second_table tables) t k) ≡ false
  passed-at k a b =
      ap (fits_step (relation_of tables rows) (first_step tables j)) (sym (transition_of (second_form tables) q.loaded.second t k q.state a))
      ∙ none (start + k) (omega arith) b (omega (arith, next_start))

  -- the one that is fitted still lies ahead
  pub seek_within : l < start_of (second_form tables) (t + 1)
  seek_within =
      let (k, a, h) = q.some in
      ⊎_elim (λ b. absurd (subst T (passed-at k a b) h)) (λ b. omega (arith, next_start)) (below_or_not (start + k) l)

  -- what the test is asked
  pub seek_asked : {amounts' : List ℕ} → length amounts' ≡ length amounts → Asked tables rows amounts' j l
  seek_asked e =
      record {
        loaded = q.loaded;
        rows_room = q.rows_room;
        amounts_room = omega (arith, q.amounts_room);
        from_first = q.from_first;
        from_second = omega (arith, seek_within, start-bound (second_form tables) q.loaded.second (t + 1) (omega (arith, q.state)));
      }

  -- it is found
  pub seek_found : {s : ℕ} {r : Bool} {amounts' : List ℕ} → s ≡ start → r ≡ fits_step_at tables rows j l → SharedOut tables rows j l r amounts' → r ≡ true
      → FirstFit tables rows j t (l - s) amounts'
  seek_found {amounts' = amounts'} e fit out w =
      let N = second_table tables in
      let R = relation_of tables rows in
      let m = first_step tables j in
      let at = transition_numbered (second_form tables) q.loaded.second t l q.state from seek_within in
      let within : l - start < length (steps N t) = omega (arith, next_start, seek_within) in
      subst (λ (s : ℕ). FirstFit tables rows j t (l - s) amounts') (sym e)
      (record {
        is = sym (place_is R m (steps N t) (l - start) within (λ i a. passed-at i (omega arith) (omega arith)) (sym (ap (fits_step R m) at) ∙ sym fit ∙ w));
        below = within;
        shares = subst (λ (n : Transition). SharesIn R m n (cell amounts')) at (out.shares w);
      })
