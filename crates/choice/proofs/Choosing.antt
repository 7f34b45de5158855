-- How the chosen transition and its sets are found: the walks over the members of a mask, what one transition adds to the sets of another,
-- the rows that are lent beside the sets, and the walks over the transitions of a state.
-- Assumes nothing.
use Rattle.form.specs.declared.tables.Tables.{Tables}
use mathlib.Core.Path.{◌≡◌, refl, sym, ap, ap₂, ◌∙◌, subst, subst₂, fun_ext}
use mathlib.Core.Bool.{Bool, true, false, not, ◌&&◌, ◌||◌, and_comm}
use mathlib.Core.List.{List, [], ◌∷◌}
use mathlib.Core.Logic.{◌⊎◌, inl, inr, ⊎_elim}
use Rattle.std.specs.Prelude.{Some, None}
use Prim.Native.Nat.{ℕ, zero, suc, ◌+◌, ◌-◌, ◌*◌, ◌/◌, ◌≤◌, ◌<◌, pred}
use native.Mathlib.Nat.{zero-add, not-suc-le-zero, le_of_suc-le-suc, sub_self}
use native.Mathlib.Omega.{arith}
use native.Mathlib.Decide.{ℕ_discrete, dec_lt}
use lib.Dec.{T, eqb, eqb→eq}
use borrow.Author.Tests.{lt-ltb, ltb-true, eqb-false}
use lib.ListN.{length, get_or, take}
use lib.Seq.{take_all}
use Rattle.simulation.specs.Limits.{most_pairs, most_states}
use Rattle.simulation.specs.Sum.{any, any_of}
use Rattle.simulation.specs.Fit.{touched}
use Rattle.simulation.specs.Table.{Transition, weights, target_at, states_of, steps, no_transition, transition}
use Rattle.simulation.specs.Round.{Relation, between, fits_step, round, rank}
use Rattle.simulation.specs.Tree.{before, chosen, cut_of, apart_by, apart}
use Rattle.simulation.proofs.Finite.Tests.{and_left, and_right, differ_eqb, is_true, true_T, same_test, any_some, some-any, any_ext, same_eqb, last_or_below}
use Rattle.simulation.proofs.Finite.Lists.{any_of-at}
use Rattle.simulation.proofs.Simulation.Steps.{fits_step-code}
use Rattle.simulation.proofs.Complete.Codes.{lists-same}
use Rattle.simulation.proofs.Trees.Choice.{Chosen, chosen_law, chosen_at}
use Rattle.form.specs.Form.{Loaded, table_of, start_of, transitions_of, transition_at}
use Rattle.form.specs.Tables.{first_form, second_form, first_table, second_table, contract_table, first_step, second_step}
use Rattle.form.proofs.FormLaws.{counts, start-bound, starts_ascend, transition_of, transition_numbered, weights-length}
use Rattle.form.proofs.Contract.{own_code, contract-states, answered-listed}
use Rattle.word.specs.Mask.{Test, member, up_to, without_member, either, except, Lowest}
use Rattle.set.specs.Words.{mask as mask-of, words}
use Rattle.relation.specs.Rows.{row_of, height, rows_in, put_row}
use Rattle.set.specs.declared.Set.{Set}
use Rattle.relation.proofs.RowLaws.{length_put, row_put, row_put_other}
use Rattle.word.proofs.Mask.{member-none, below_or_not}
use Rattle.relation.proofs.Parts.{part-row}
use Rattle.matrix.proofs.MaskedLaws.{true_or_false, neither, except-at, either-at, either_left, either-right, drop_at, drop-out, no_members}
use Rattle.buffer.specs.Buffer.{with_part}
use Rattle.buffer.proofs.Parts.{part-size, part-is, part_length, part-before}
use Rattle.relate.specs.Ranked.{RanksRight}
use Rattle.fit.specs.Ranked.{InRound, Cut}
use Rattle.fit.proofs.Codes.{other-code}
use Rattle.fit.proofs.Comparing.{cut_fits}
use Rattle.fit.proofs.Steps.{upto_next, one_passes, none_passes}
use Rattle.choice.specs.Choice.{Names, SetsJoined, Parted, Lost, Choice, round_fits_some, Tested}
use Rattle.choice.proofs.Choices.{choice_width}
use Rattle.relation.specs.Related.{holds}

-- ---- a walk over the members of a mask

pub eqb_flip : (a b : ℕ) → eqb a b ≡ eqb b a
eqb_flip a b = same_test (eqb a b) (eqb b a) (λ t. same_eqb (sym (eqb→eq a b t))) (λ t. same_eqb (sym (eqb→eq b a t)))

-- a test of more numbers, none of which passes
any_wider : (p q : ℕ) (f g : ℕ → Bool) → p ≤ q → ((i : ℕ) → i < p → f i ≡ g i) → ((i : ℕ) → p ≤ i → g i ≡ false) → any p f ≡ any q g
any_wider p q f g le same none =
    same_test (any p f) (any q g)
    (λ t. let w = any_some p f t in some-any q g w.0 (omega (arith, w.1)) (subst T (same w.0 w.1) w.2))
    (λ t.
    let w = any_some q g t in
    ⊎_elim (λ l. some-any p f w.0 l (subst T (sym (same w.0 l)) w.2)) (λ l. absurd (subst T (none w.0 l) w.2)) (below_or_not w.0 p))

-- what is left is a part of the set
next-part : (X : Test) (left left' t : ℕ) → ((i : ℕ) → member left i ≡ true → X i ≡ true) → member left' ≡ without_member t (member left)
    → (i : ℕ) → member left' i ≡ true → X i ≡ true
next-part X left left' t part e i h = part i (drop_at (member left) t i e h).0

-- acc is the union of the sets of the members passed
pub record Uniting (sets : ℕ → Test) (X : Test) (left acc : ℕ) : Type 0 where
  pub part : (i : ℕ) → member left i ≡ true → X i ≡ true
  pub from : (u : ℕ) → member acc u ≡ true → (i : ℕ) × (X i ≡ true) × (sets i u ≡ true)
  pub all : (i u : ℕ) → X i ≡ true → member left i ≡ false → sets i u ≡ true → member acc u ≡ true

module _ {sets : ℕ → Test} {X : Test} where
  pub uniting_start : {left acc : ℕ} → member left ≡ X → acc ≡ 0 → Uniting sets X left acc
  uniting_start e z = record {
    part = λ i t. sym (ap (λ X. X i) e) ∙ t;
    from = λ u t. absurd (neither t (no_members z u));
    all = λ i u t f. absurd (neither (ap (λ X. X i) e ∙ t) f);
  }

  pub uniting_next : {left acc left' acc' t : ℕ} → Uniting sets X left acc → Lowest (member left) t → member left' ≡ without_member t (member left)
      → member acc' ≡ either (sets t) (member acc) → Uniting sets X left' acc'
  uniting_next {left} {acc} {left'} {acc'} {t} g low e u = record {
    part = next-part X left left' t g.part e;
    from = λ k m. ⊎_elim (λ h. (t, g.part t low.here, h)) (g.from k) (either-at (sets t) (member acc) k u m);
    all = λ i k m f h.
        ⊎_elim (λ c. either_left (sets t) (member acc) k u (subst (λ (i : ℕ). sets i k ≡ true) c h)) (λ o. either-right (sets t) (member acc) k u (g.all i k m o h))
        (drop-out (member left) t i e f);
  }

  pub uniting_end : {left acc : ℕ} (n : ℕ) → left ≡ 0 → ((i : ℕ) → X i ≡ true → i < n) → Uniting sets X left acc → (u : ℕ) → member acc u ≡ any n (λ i. X i && sets i u)
  uniting_end {acc = acc} n z inside g u =
      same_test (member acc u) (any n (λ i. X i && sets i u))
      (λ t. let w = g.from u (is_true (member acc u) t) in some-any n (λ i. X i && sets i u) w.0 (inside w.0 w.1) (subst T (sym (ap₂ ◌&&◌ w.1 w.2)) tt))
      (λ t.
      let w = any_some n (λ i. X i && sets i u) t in
      let i = w.0 in
      subst T (sym (g.all i u (is_true (X i) (and_left (X i) (sets i u) w.2)) (no_members z i) (is_true (sets i u) (and_right (X i) (sets i u) w.2)))) tt)

-- the places below q that are not in X
module _ (q : ℕ) (X : Test) where
  pub outside_names : (i : ℕ) → except (up_to q) X i ≡ true → i < q
  outside_names i t = ltb-true i q (except-at (up_to q) X i refl t).0

  pub outside-any : (ts : List ℕ) (u : ℕ) → any q (λ j. except (up_to q) X j && eqb u (get_or ts j 0)) ≡ any q (λ j. eqb (get_or ts j 0) u && not (X j))
  outside-any ts u =
      any_ext q _ _ (λ j l.
      ap₂ ◌&&◌ (ap (λ b. b && not (X j)) (lt-ltb j q l)) (eqb_flip u (get_or ts j 0))
      ∙ and_comm (not (X j)) (eqb (get_or ts j 0) u))

-- the sets of the members passed are joined, the others as they were
pub record Joining (mask more : ℕ) (sets sets' : List ℕ) (left : ℕ) : Type 0 where
  pub size : length sets' ≡ length sets
  pub part : (i : ℕ) → member left i ≡ true → member mask i ≡ true
  pub joined : (i : ℕ) → member mask i ≡ true → member left i ≡ false → (u : ℕ) → member (row_of sets' i) u ≡ (member more u || member (row_of sets i) u)
  pub waiting : (i : ℕ) → member left i ≡ true → row_of sets' i ≡ row_of sets i
  pub others : (i : ℕ) → member mask i ≡ false → row_of sets' i ≡ row_of sets i

pub joining_next : {mask more left left' t : ℕ} {sets sets' : List ℕ} (v : Set) → Joining mask more sets sets' left → Names mask (height sets)
    → Lowest (member left) t → member left' ≡ without_member t (member left) → member (mask-of v) ≡ either (member more) (member (row_of sets' t))
    → Joining mask more sets (put_row sets' t v) left'
joining_next {mask} {more} {left} {left'} {t} {sets} {sets'} v j names low e hv =
    record {
      size = length_put sets' t v ∙ j.size;
      part = next-part (member mask) left left' t j.part e;
      joined = λ i m f u. at i m u (ℕ_discrete i t) (drop-out (member left) t i e f);
      waiting = λ i h. let w = drop_at (member left) t i e h in row_put_other sets' t i v w.1 ∙ j.waiting i w.0;
      others = λ i f. row_put_other sets' t i v (λ c. neither (ap (member mask) c ∙ j.part t low.here) f) ∙ j.others i f;
    }
  where
    at : (i : ℕ) → member mask i ≡ true → (u : ℕ) → Dec (i ≡ t) → (i ≡ t) ⊎ (member left i ≡ false) → member (row_of (put_row sets' t v) i) u ≡ (member more u || member (row_of sets i) u)
    at i m u (yes c) _ =
        subst (λ (k : ℕ). member (row_of (put_row sets' t v) k) u ≡ (member more u || member (row_of sets k) u)) (sym c)
        (ap (λ (y : ℕ). member y u) (row_put sets' t v (omega (arith, j.size, names t (j.part t low.here))))
        ∙ ap (λ X. X u) hv ∙ ap (λ (y : ℕ). member more u || member y u) (j.waiting t low.here))
    at i m u (no o) (inl c) = absurd (o c)
    at i m u (no o) (inr f) = ap (λ (y : ℕ). member y u) (row_put_other sets' t i v o) ∙ j.joined i m f u

pub joining_end : {mask more left : ℕ} {sets sets' : List ℕ} → left ≡ 0 → Joining mask more sets sets' left → SetsJoined mask more sets sets'
joining_end {mask} {more} {sets = sets} {sets'} z j = record { join = λ i u. at i u (true_or_false (member mask i)) }
  where
    at : (i u : ℕ) → (member mask i ≡ true) ⊎ (member mask i ≡ false) → member (row_of sets' i) u ≡ ((member mask i && member more u) || member (row_of sets i) u)
    at i u (inl t) = j.joined i t (no_members z i) u ∙ sym (ap (λ b. (b && member more u) || member (row_of sets i) u) t)
    at i u (inr f) = ap (λ (y : ℕ). member y u) (j.others i f) ∙ sym (ap (λ b. (b && member more u) || member (row_of sets i) u) f)

-- ---- what a transition adds to the sets of the targets of another

module _ (R : Relation) (m n : Transition) where
  -- u is a target of n that no target in the cut is related to
  abbrev off_cut : ℕ → Bool
  off_cut u = any (length (weights n)) (λ l. eqb (target_at n l) u && not (touched (length (weights m)) (between R m n) (cut_of R m n) l))

  apart_other : (m.code ≡ n.code → ⊥) → (i u : ℕ) → apart_by R m i n u ≡ false
  unfolding apart_by
  apart_other d i u = ap (λ b. (b && cut_of R m n i) && off_cut u) (differ_eqb m.code n.code d)

  apart-same : m.code ≡ n.code → (i u : ℕ) → apart_by R m i n u ≡ (cut_of R m n i && off_cut u)
  unfolding apart_by
  apart-same e i u = ap (λ b. (b && cut_of R m n i) && off_cut u) (is_true (eqb m.code n.code) (same_eqb e))

  -- n has another code
  pub parted_other : (m.code ≡ n.code → ⊥) → (sets : List ℕ) → Parted R m n false sets sets
  parted_other d sets =
      record {
        fit = other-code R m n d;
        added = λ _. record { join = λ i _ u. sym (ap (λ b. b || member (row_of sets i) u) (apart_other d i u)) };
      }

  -- the cut is empty
  pub parted_fit : {rel sets sets' : List ℕ} {mask : ℕ} {b : Bool} → m.code ≡ n.code → Cut R m n rel mask → b ≡ eqb mask 0 → b ≡ true → Parted R m n true sets sets'
  parted_fit e c v t = record { fit = sym t ∙ v ∙ cut_fits R m n e c; added = λ f. absurd (neither refl f) }

  -- the mask names targets of m
  pub cut_names : {rel : List ℕ} {mask : ℕ} → Cut R m n rel mask → (p : ℕ) → length m.entries ≤ p → Names mask p
  cut_names c p le i t = ⊎_elim (λ l. omega arith) (λ l. absurd (neither t (c.no_others i l))) (below_or_not i (length m.entries))

  module _ {rel : List ℕ} {mask : ℕ} (near more : ℕ) (code : m.code ≡ n.code) (c : Cut R m n rel mask) (rows : length m.entries ≤ height rel)
      (reached : (l : ℕ) → member near l ≡ touched (height rel) (holds rel) (member mask) l)
      (others : (u : ℕ) → member more u ≡ any (length n.entries) (λ l. eqb (target_at n l) u && not (member near l))) where
    near-is : (l : ℕ) → l < length n.entries → touched (length (weights m)) (between R m n) (cut_of R m n) l ≡ member near l
    near-is l b =
        any_wider (length (weights m)) (height rel) (λ i. cut_of R m n i && between R m n i l) (λ i. member mask i && holds rel i l) (omega (arith, weights-length m))
        (λ i a. ap₂ ◌&&◌ (c.smallest i (omega (arith, weights-length m))) (sym (c.related i l (omega (arith, weights-length m)) b)))
        (λ i a. ap (λ v. v && holds rel i l) (c.no_others i (omega (arith, weights-length m))))
        ∙ sym (reached l)

    more-is : (u : ℕ) → off_cut u ≡ member more u
    more-is u =
        ap (λ (q : ℕ). any q (λ l. eqb (target_at n l) u && not (touched (length (weights m)) (between R m n) (cut_of R m n) l))) (weights-length n)
        ∙ any_ext (length n.entries) _ _ (λ l b. ap (λ v. eqb (target_at n l) u && not v) (near-is l b))
        ∙ sym (others u)

    -- the cut is not empty; what was done between touched no set of a target of m
    pub parted_unfit : {sets sets' sets'' : List ℕ} {b : Bool} → b ≡ eqb mask 0 → b ≡ false → ((i : ℕ) → i < length m.entries → row_of sets' i ≡ row_of sets i)
        → SetsJoined mask more sets' sets'' → Parted R m n false sets sets''
    parted_unfit {sets} v f kept w =
        record {
          fit = sym f ∙ v ∙ cut_fits R m n code c;
          added = λ _. record {
            join = λ i b u.
                w.join i u
                ∙ ap₂ ◌||◌ (ap₂ ◌&&◌ (sym (c.smallest i b)) (sym (more-is u)) ∙ sym (apart-same code i u)) (ap (λ (y : ℕ). member y u) (kept i b));
          };
        }

-- ---- the sets, and after them the rows of a relation, which were lent and came back

-- the words of each half
abbrev pub half-words : ℕ
half-words = most_states * words

module _ (rel sets : List ℕ) (room : 2 * most_states ≤ height sets) (size : length rel ≡ length (rows_in most_states most_states sets)) where
  rel_size : length rel ≡ half-words
  rel_size = size ∙ part-size half-words half-words sets (omega arith)

  pub lent-height : height (with_part half-words half-words rel sets) ≡ height sets
  lent-height = ap (λ (n : ℕ). n / words) (part_length half-words half-words rel sets rel_size (omega arith))

  pub lent_rows : rows_in most_states most_states (with_part half-words half-words rel sets) ≡ rel
  lent_rows = part-is half-words half-words rel sets rel_size (omega arith)

  pub lent-sets : (i : ℕ) → i < most_states → row_of (with_part half-words half-words rel sets) i ≡ row_of sets i
  lent-sets i lt =
      let l = with_part half-words half-words rel sets in
      ap (row_of l) (sym (zero-add i)) ∙ sym (part-row 0 most_states l i lt) ∙ ap (λ (z : List ℕ). row_of z i) (part-before half-words half-words rel sets rel_size (omega arith) 0 half-words (omega arith))
      ∙ part-row 0 most_states sets i lt ∙ ap (row_of sets) (zero-add i)

-- ---- the transitions of a state, by number

-- none of those before number k passes
pub record Scan (f : List ℕ) (t : ℕ) (test : Transition → Bool) (k : ℕ) : Type 0 where
  pub low : start_of f t ≤ k
  pub high : k ≤ start_of f (t + 1)
  pub none : (l : ℕ) → start_of f t ≤ l → l < k → test (transition_at f l) ≡ false

module _ (f : List ℕ) (l : Loaded f) (t : ℕ) (b : t < states_of (table_of f)) where
  pub number_of : (k : ℕ) → start_of f t ≤ k → k < start_of f (t + 1) → k < transitions_of f
  number_of k a h = omega (arith, start-bound f l (t + 1) (omega arith))

  module _ (test : Transition → Bool) where
    pub scan_start : Scan f t test (start_of f t)
    scan_start = record { low = omega arith; high = starts_ascend f l t (t + 1) (omega arith) (omega arith); none = λ k a h. absurd (omega arith) }

    pub scan_next : {k : ℕ} → Scan f t test k → k < start_of f (t + 1) → test (transition_at f k) ≡ false → Scan f t test (k + 1)
    scan_next {k} s h e =
        record {
          low = omega (arith, s.low);
          high = omega arith;
          none = upto_next (λ (i : ℕ). test (transition_at f i)) false (start_of f t) k s.none refl e;
        }

    pub scan_end : {k : ℕ} → Scan f t test k → start_of f (t + 1) ≤ k → any_of test (steps (table_of f) t) ≡ false
    scan_end s h = sym (none_passes f l t b test (λ i a c. s.none i a (omega arith)))

-- ---- what the contract's transitions of a state answer

-- a state of the contract is one of the second table
pub second-state : (tables : Tables) {t : ℕ} → t < states_of (contract_table tables) → t < states_of (second_table tables)
second-state tables b = omega (arith, contract-states tables)

-- m fits the listed transition l of t
pub listed_answers : (tables : Tables) → Loaded (second_form tables) → (R : Relation) (m : Transition) (t l : ℕ) → t < states_of (contract_table tables)
    → start_of (second_form tables) t ≤ l → l < start_of (second_form tables) (t + 1) → {b : Bool} → b ≡ fits_step R m (second_step tables l) → b ≡ true
    → any_of (fits_step R m) (steps (contract_table tables) t) ≡ true
listed_answers tables loaded R m t l b low high e h =
    let g = second_form tables in
    let state = second-state tables b in
    let same = fits_step-code R m (second_step tables l) (true_T (sym e ∙ h)) in
    answered-listed tables m t (lists-same (table_of g).codes same (own_code g loaded l (number_of g loaded t state l low high))) R
    ∙ sym (one_passes g loaded t state (fits_step R m) l low high e h)

-- ---- a pair that is not kept, with its rank

pub record LostPair (tables : Tables) (ranks : List ℕ) (s t r : ℕ) : Type 0 where
  pub ranked : RanksRight tables ranks
  pub lost : Lost tables s t
  pub its_rank : r ≡ rank (first_table tables) (contract_table tables) s t

-- a transition of the first table and one of t are compared in the round before its rank
pub lost_compared : {tables : Tables} {ranks : List ℕ} {s t r : ℕ} → LostPair tables ranks s t r → (j l : ℕ) (amounts : List ℕ) → j < transitions_of (first_form tables)
    → start_of (second_form tables) t ≤ l → l < start_of (second_form tables) (t + 1) → most_pairs ≤ length amounts → InRound tables ranks r j l amounts
lost_compared {tables} {t = t} p j l amounts b low high room =
    record {
      ranked = p.ranked;
      later = omega (arith, p.its_rank, p.lost.fell);
      from_first = b;
      from_second = number_of (second_form tables) p.ranked.loaded.second t (second-state tables p.lost.right) l low high;
      amounts_room = room;
    }

-- ---- the first transition that fits none

module _ (tables : Tables) (s t : ℕ) where
  -- m fits some transition of t in the round before the pair's rank
  abbrev pub matches : Transition → Bool
  matches m = any_of (fits_step (before (first_table tables) (contract_table tables) s t) m) (steps (contract_table tables) t)

  -- those of s before number j do
  pub record Trying (j : ℕ) : Type 0 where
    pub low : start_of (first_form tables) s ≤ j
    pub high : j < start_of (first_form tables) (s + 1)
    pub all : (l : ℕ) → start_of (first_form tables) s ≤ l → l < j → T (matches (first_step tables l))

  module _ (l : Loaded (first_form tables)) (p : Lost tables s t) where
    abbrev some_fails : Chosen (first_table tables) (contract_table tables) s t (chosen (first_table tables) (contract_table tables) s t)
    some_fails = chosen_law (first_table tables) (contract_table tables) s t p.left p.right p.fell

    -- the chosen one fits none
    chosen_unfit : {j r : ℕ} → r ≡ rank (first_table tables) (contract_table tables) s t → Choice tables s t j
        → round_fits_some tables t r j ≡ true → ⊥
    chosen_unfit {j} {r} e c h =
        let q = any_of-at (fits_step (round (first_table tables) (contract_table tables) (pred r)) (first_step tables j)) no_transition (steps (contract_table tables) t) (subst T (sym h) tt) in
        some_fails.unfit q.0 q.1
        (subst₂ (λ (r : ℕ) (m : Transition). T (fits_step (round (first_table tables) (contract_table tables) (pred r)) m (transition (contract_table tables) t q.0))) e c.is q.2)

    -- j fits one, so it is not the chosen one
    pub tested_one : {r j l : ℕ} {sets : List ℕ} → r ≡ rank (first_table tables) (contract_table tables) s t → start_of (second_form tables) t ≤ l
        → round_fits_some tables t r j ≡ true → Tested tables s t r j (Some l) sets
    tested_one e a f = record { low = a; fits = sym f; found = λ w. absurd (chosen_unfit e w f) }

    -- j fits none, and the sets are those that its targets have among the contract's transitions of t
    pub tested_none : {r j : ℕ} {sets : List ℕ} → r ≡ rank (first_table tables) (contract_table tables) s t → round_fits_some tables t r j ≡ false
        → ((i : ℕ) → i < length (first_step tables j).entries → (u : ℕ)
        → member (row_of sets i) u ≡ apart (round (first_table tables) (contract_table tables) (pred r)) (first_step tables j) (steps (contract_table tables) t) i u)
        → Tested tables s t r j None sets
    tested_none {j = j} e f h =
        record {
          low = tt;
          fits = sym f;
          found = λ w. record {
            set = λ i b.
                fun_ext (h i (omega (arith, choice_width tables l s t j p.left w)))
                ∙ ap₂ (λ (q : ℕ) (m : Transition). apart (round (first_table tables) (contract_table tables) (pred q)) m (steps (contract_table tables) t) i) e w.is;
          };
        }

    -- not all of them do
    not_all : (j : ℕ) → ((l : ℕ) → start_of (first_form tables) s ≤ l → l < j → T (matches (first_step tables l))) → j < start_of (first_form tables) (s + 1)
    not_all j h =
        let w = some_fails in
        let k = w.place in
        let here = transition_of (first_form tables) l s k p.left w.here in
        go k (dec_lt j (start_of (first_form tables) (s + 1))) (λ b.
        let q = any_of-at (fits_step (before (first_table tables) (contract_table tables) s t) (transition (first_table tables) s k)) no_transition (steps (contract_table tables) t)
        (subst (λ (m : Transition). T (matches m)) here (h (start_of (first_form tables) s + k) (omega arith) b)) in
        w.unfit q.0 q.1 (subst (λ (m : Transition). T (fits_step (before (first_table tables) (contract_table tables) s t) m (transition (contract_table tables) t q.0))) w.same q.2))
        (omega (arith, counts (first_form tables) l s p.left, w.here))
      where
        go : (k : ℕ) → Dec (j < start_of (first_form tables) (s + 1)) → (start_of (first_form tables) s + k < j → ⊥) → start_of (first_form tables) s + k < start_of (first_form tables) (s + 1) → j < start_of (first_form tables) (s + 1)
        go k (yes b) f c = b
        go k (no b) f c = absurd (f (omega (arith, b)))

    pub trying_start : Trying (start_of (first_form tables) s)
    trying_start = record { low = omega arith; high = not_all (start_of (first_form tables) s) (λ l a h. absurd (omega arith)); all = λ l a h. absurd (omega arith) }

    pub trying_next : {j : ℕ} → Trying j → matches (first_step tables j) ≡ true → Trying (j + 1)
    trying_next {j} w e = record { low = omega (arith, w.low); high = not_all (j + 1) more; all = more }
      where
        more : (i : ℕ) → start_of (first_form tables) s ≤ i → i < j + 1 → T (matches (first_step tables i))
        more i a c = ⊎_elim (λ q. subst T (sym (ap (λ (i : ℕ). matches (first_step tables i)) q ∙ e)) tt) (w.all i a) (last_or_below i j (omega arith))

    pub trying_end : {j : ℕ} → Trying j → matches (first_step tables j) ≡ false → Choice tables s t j
    trying_end {j} w e =
        let here = transition_numbered (first_form tables) l s j p.left w.low w.high in
        record {
          low = w.low;
          high = w.high;
          is = here ∙ sym (chosen_at (first_table tables) (contract_table tables) s t (j - start_of (first_form tables) s) (omega (arith, counts (first_form tables) l s p.left, w.low, w.high))
              (λ i c. subst (λ (m : Transition). T (matches m)) (transition_of (first_form tables) l s i p.left (omega (arith, counts (first_form tables) l s p.left, w.high)))
              (w.all (start_of (first_form tables) s + i) (omega arith) (omega (arith, w.low))))
              (λ x. subst T (ap matches (sym here) ∙ e) x));
        }

-- ---- the sets, transition by transition

or_swap : (a b c : Bool) → (a || (b || c)) ≡ (b || (a || c))
or_swap true true c = refl
or_swap true false c = refl
or_swap false true c = refl
or_swap false false c = refl

any_of-take : (f : Transition → Bool) (ns : List Transition) (c : ℕ) → c < length ns → any_of f (take (suc c) ns) ≡ (f (get_or ns c no_transition) || any_of f (take c ns))
unfolding any_of
any_of-take f [] c h = absurd (not-suc-le-zero h)
any_of-take f (n ∷ ns) zero h = refl
any_of-take f (n ∷ ns) (suc c) h = ap (λ b. f n || b) (any_of-take f ns c (le_of_suc-le-suc h)) ∙ or_swap (f n) (f (get_or ns c no_transition)) (any_of f (take c ns))

any_of-nothing : (f : Transition → Bool) → any_of f [] ≡ false
unfolding any_of
any_of-nothing f = refl

apart-is : (R : Relation) (m : Transition) (ns : List Transition) (i u : ℕ) → any_of (λ n. apart_by R m i n u) ns ≡ apart R m ns i u
unfolding apart
apart-is R m ns i u = refl

-- m fits none of the listed transitions of t before number k, and the sets hold what those add
pub record SetsGathering (R : Relation) (m : Transition) (tables : Tables) (t k : ℕ) (sets : List ℕ) : Type 0 where
  pub scan : Scan (second_form tables) t (fits_step R m) k
  pub gathered : (i : ℕ) → i < length m.entries → (u : ℕ)
      → member (row_of sets i) u ≡ any_of (λ n. apart_by R m i n u) (take (k - start_of (second_form tables) t) (steps (second_table tables) t))

module _ (R : Relation) (m : Transition) (tables : Tables) (l : Loaded (second_form tables)) (t : ℕ) (b : t < states_of (second_table tables)) where
  pub gathering_start : (sets : List ℕ) → ((i : ℕ) → i < length m.entries → row_of sets i ≡ 0) → SetsGathering R m tables t (start_of (second_form tables) t) sets
  gathering_start sets z =
      record {
        scan = scan_start (second_form tables) l t b (fits_step R m);
        gathered = λ i a u.
            ap (λ (y : ℕ). member y u) (z i a) ∙ member-none u
            ∙ sym (ap (λ (c : ℕ). any_of (λ n. apart_by R m i n u) (take c (steps (second_table tables) t))) (sub_self (start_of (second_form tables) t)) ∙ any_of-nothing (λ n. apart_by R m i n u));
      }

  pub gathering_next : {k : ℕ} {v : Bool} {sets sets' : List ℕ} → SetsGathering R m tables t k sets → k < start_of (second_form tables) (t + 1)
      → Parted R m (second_step tables k) v sets sets' → v ≡ false → SetsGathering R m tables t (k + 1) sets'
  gathering_next {k} {v} {sets} {sets'} g h a f =
      let c = k - start_of (second_form tables) t in
      let e : k + 1 - start_of (second_form tables) t ≡ suc c = let q = g.scan.low in omega arith in
      record {
        scan = scan_next (second_form tables) l t b (fits_step R m) g.scan h (sym a.fit ∙ f);
        gathered = λ i lt u.
            (a.added f).join i lt u
            ∙ ap₂ (λ (n : Transition) (v : Bool). apart_by R m i n u || v) (transition_numbered (second_form tables) l t k b g.scan.low h) (g.gathered i lt u)
            ∙ sym (ap (λ (c : ℕ). any_of (λ n. apart_by R m i n u) (take c (steps (second_table tables) t))) e
            ∙ any_of-take (λ n. apart_by R m i n u) (steps (second_table tables) t) c (omega (arith, counts (second_form tables) l t b, g.scan.low)));
      }

  -- those with another code add nothing
  pub gathering_coded : {c k e r : ℕ} {sets : List ℕ} → c ≡ m.code → k ≤ r → r ≤ e → ((q : ℕ) → k ≤ q → q < r → eqb c (second_step tables q).code ≡ false) → e ≡ start_of (second_form tables) (t + 1) → SetsGathering R m tables t k sets
      → SetsGathering R m tables t r sets
  gathering_coded {c} {k} {e} {r} {sets} code from to others end g = passed (r - k) r (omega arith) (omega arith)
    where
      move : {q q' : ℕ} → q ≡ q' → SetsGathering R m tables t q sets → SetsGathering R m tables t q' sets
      move = subst (λ (q : ℕ). SetsGathering R m tables t q sets)

      passed : (n q : ℕ) → q ≡ k + n → q ≤ r → SetsGathering R m tables t q sets
      passed zero q w le = move (omega arith) g
      passed (suc n) q w le =
          let other : m.code ≡ (second_step tables (k + n)).code → ⊥ = λ d. eqb-false c (second_step tables (k + n)).code (others (k + n) (omega arith) (omega arith)) (code ∙ d) in
          move (omega arith) (gathering_next (passed n (k + n) refl (omega arith)) (omega arith) (parted_other R m (second_step tables (k + n)) other sets) refl)

  pub gathering_end : {k : ℕ} {sets : List ℕ} → SetsGathering R m tables t k sets → start_of (second_form tables) (t + 1) ≤ k → (i : ℕ) → i < length m.entries
      → (u : ℕ) → member (row_of sets i) u ≡ apart R m (steps (second_table tables) t) i u
  gathering_end {k} g h i lt u =
      g.gathered i lt u
      ∙ ap (any_of (λ n. apart_by R m i n u)) (take_all (k - start_of (second_form tables) t) (steps (second_table tables) t) (omega (arith, counts (second_form tables) l t b, g.scan.high)))
      ∙ apart-is R m (steps (second_table tables) t) i u
