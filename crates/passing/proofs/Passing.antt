-- A pair is passed: it is listed, and the pairs below it are to be passed.
-- Assumes nothing.
use Rattle.form.specs.declared.tables.Tables.{Tables}
use mathlib.Core.Path.{◌≡◌, refl, sym, ap, ap₂, ◌∙◌, subst}
use mathlib.Core.Bool.{not, ◌&&◌, and-true}
use mathlib.Core.List.{List}
use mathlib.Core.Logic.{◌⊎◌, inl, inr, ⊎_elim}
use Prim.Native.Nat.{ℕ, ◌+◌, ◌/◌, ◌≤◌, ◌<◌}
use native.Mathlib.Nat.{lt_irrefl}
use native.Mathlib.Omega.{arith}
use native.Mathlib.Decide.{ℕ_discrete}
use lib.Dec.{T, T_not, not_T, eqb, eqb→eq}
use lib.ListN.{length, get_or, set, length-set}
use borrow.Author.Tests.{eq-eqb, ne_eqb}
use lib.Seq.{get_or-set_same, get_or-set_other}
use Rattle.simulation.specs.Limits.{most_states, most_pairs}
use Rattle.form.specs.Tables.{first_table, contract_table, first_step}
use Rattle.simulation.specs.Sum.{any}
use Rattle.simulation.specs.Table.{Table, targets, target_at}
use Rattle.simulation.specs.Round.{pairs, rank}
use Rattle.simulation.specs.Tree.{chosen, set_of}
use Rattle.simulation.proofs.Finite.Tests.{or_cases, or_left, or_right, and_left, and_right, and_both, same_eqb, any_some, some-any}
use Rattle.form.proofs.Contract.{contract-pairs}
use Rattle.word.specs.Mask.{Test, member, without_member}
use Rattle.set.specs.Words.{words, mask}
use Rattle.relation.specs.Rows.{row_of, height, put_row}
use Rattle.relation.proofs.RowLaws.{length_put, row_put, row_put_other}
use Rattle.set.specs.declared.Set.{Set}
use Rattle.choice.specs.Choice.{Lost, Choice, SetsChosen}
use Rattle.counting.proofs.Pairs.{at-number, lost-place, lost-low, number-place}
use Rattle.counting.proofs.Targets.{ChoiceGiven, targets-are, count-is, few-targets, state-low, set_at, child-lost}
use Rattle.counting.specs.Count.{child, Tallied, HandGiven}
use Rattle.counting.specs.Pair.{number, row, column}
use Rattle.passing.specs.declared.Trail.{Trail}
use Rattle.passing.specs.Passing.{ToDo, ChildrenLent, ChildrenAdded, OrderGiven, Later, Found, Seen, PairNoted, Above, Kept, Passing, AtPair, PairPassed}
use Rattle.passing.proofs.Listing.{fewer}

-- the pair (s, t) is no longer among those to be passed
pub record PairRemoved (todo : List ℕ) (s t : ℕ) (todo' : List ℕ) : Type 0 where
  pub same-todo : length todo' ≡ length todo
  pub is : (u v : ℕ) → member (row_of todo' u) v ≡ (member (row_of todo u) v && not (eqb u s && eqb v t))

-- the row of s without t is put
pub pair_removed : (todo : List ℕ) {s t : ℕ} → s < height todo → (rest : Set) {was : ℕ} {todo' : List ℕ} → was ≡ row_of todo s
    → member (mask rest) ≡ without_member t (member was) → todo' ≡ put_row todo s rest → PairRemoved todo s t todo'
pair_removed todo {s} {t} low rest {was} {todo'} ew er e = record { same-todo = ap length e ∙ length_put todo s rest; is = λ u v. at u v (ℕ_discrete u s) }
  where
    at : (u v : ℕ) → Dec (u ≡ s) → member (row_of todo' u) v ≡ (member (row_of todo u) v && not (eqb u s && eqb v t))
    at u v (yes p) =
        ap (λ (k : ℕ). member (row_of todo' k) v) p
        ∙ ap (λ (y : ℕ). member y v) (ap (λ (l : List ℕ). row_of l s) e ∙ row_put todo s rest low)
        ∙ ap (λ (X : Test). X v) er ∙ ap (λ (y : ℕ). member y v && not (eqb v t)) ew
        ∙ ap₂ (λ (k : ℕ) b. member (row_of todo k) v && not (b && eqb v t)) (sym p) (sym (eq-eqb u s p))
    at u v (no d) =
        ap (λ (y : ℕ). member y v) (ap (λ (l : List ℕ). row_of l u) e ∙ row_put_other todo s u rest d) ∙ sym (and-true (member (row_of todo u) v))
        ∙ ap (λ b. member (row_of todo u) v && not (b && eqb v t)) (sym (ne_eqb u s d))

-- the transition j of the pair (s, t) is chosen, with the sets of its targets, and the pair is no longer to be passed
pub record PairChosen (tables : Tables) (todo₀ : List ℕ) (s t j : ℕ) (sets todo : List ℕ) : Type 0 where
  pub choice : Choice tables s t j
  pub told : SetsChosen tables s t sets
  pub words_room : most_states ≤ height sets
  pub removed : PairRemoved todo₀ s t todo

module _ {tables : Tables} {ranks : List ℕ} {r s t : ℕ} {W : Trail} (p : AtPair tables ranks r s t W) where
  abbrev M : Table
  M = first_table tables

  abbrev N : Table
  N = contract_table tables

  abbrev n : ℕ
  n = W.walk.count

  abbrev order : List ℕ
  order = W.order.now

  given : OrderGiven tables ranks order W.choices.now W.amounts.now
  given = p.walking.given.given

  passing : Passing tables r W
  passing = p.walking.passing

  -- the pair is not kept, its states are low, and it has a row
  pub here-lost : Lost tables s t
  here-lost = passing.lost s t p.here

  pub here-low : (s < most_states) × (t < most_states)
  here-low = lost-low here-lost given.ranked.loaded

  pub here-row : s < height W.todo.now
  here-row = omega (arith, here-low.0, p.walking.given.rows)

  -- it is not listed yet, so there is room for it
  not_listed : (k : ℕ) → k < n → get_or order k 0 ≡ number tables s t → ⊥
  not_listed k a e =
      passing.gone k a
      (subst (λ (p : ℕ). ToDo W (row tables p) (column tables p)) (sym e) (at-number tables (λ u v. ToDo W u v) s t here-lost.right p.here))

  few : n < pairs M N
  few = fewer (pairs M N) n (λ k. get_or order k 0) (number tables s t) (lost-place here-lost) (λ k a. number-place tables (get_or order k 0) (passing.at k a).lost) passing.once not_listed

  -- the list and the notes have places for it
  pub here-room : n < length order
  here-room = omega (arith, few, given.room)

  pub here-count : n < most_pairs
  here-count = omega (arith, few, contract-pairs tables given.ranked.loaded)

  pub here-noted : number tables s t < length W.choices.now
  here-noted = omega (arith, lost-place here-lost, given.notes)

  -- ---- the list with the pair

  module _ {order' : List ℕ} {m : ℕ} (eo : order' ≡ set order n (number tables s t)) (em : m ≡ n + 1) where
    order-old : (k : ℕ) → k < n → get_or order' k 0 ≡ get_or order k 0
    order-old k b =
        ap (λ (l : List ℕ). get_or l k 0) eo ∙ get_or-set_other order n k (number tables s t) 0 (λ e. lt_irrefl n (subst (λ (i : ℕ). i < n) e b))

    order_new : get_or order' n 0 ≡ number tables s t
    order_new = ap (λ (l : List ℕ). get_or l n 0) eo ∙ get_or-set_same order n (number tables s t) 0 here-room

    -- by place: a place of old, or the new one
    by_place : (P : ℕ → ℕ → Type 0) → ((k : ℕ) → k < n → P k (get_or order k 0)) → P n (number tables s t) → (k : ℕ) → k < m → P k (get_or order' k 0)
    by_place P old new k b = at (ℕ_discrete k n)
      where
        at : Dec (k ≡ n) → P k (get_or order' k 0)
        at (yes e) = subst (λ (i : ℕ). P i (get_or order' i 0)) (sym e) (subst (λ (q : ℕ). P n q) (sym order_new) new)
        at (no d) = let c : k < n = omega (arith, d, em) in subst (λ (q : ℕ). P k q) (sym (order-old k c)) (old k c)

    -- its transition is noted, and those of the pairs before it stay so
    also_noted : {j : ℕ} {choices' : List ℕ} → Choice tables s t j → choices' ≡ set W.choices.now (number tables s t) j → PairNoted tables order' m choices'
    also_noted {j} {choices'} c ec =
        record {
          at = by_place (λ k p. Choice tables (row tables p) (column tables p) (get_or choices' p 0))
              (λ k b. subst (λ (i : ℕ). Choice tables (row tables (get_or order k 0)) (column tables (get_or order k 0)) i) (sym (old k b)) (passing.noted.at k b))
              (subst (λ (i : ℕ). Choice tables (row tables (number tables s t)) (column tables (number tables s t)) i) (sym new)
              (at-number tables (λ u v. Choice tables u v j) s t here-lost.right c));
        }
      where
        old : (k : ℕ) → k < n → get_or choices' (get_or order k 0) 0 ≡ get_or W.choices.now (get_or order k 0) 0
        old k b = ap (λ (l : List ℕ). get_or l (get_or order k 0) 0) ec ∙ get_or-set_other W.choices.now (number tables s t) (get_or order k 0) j 0 (not_listed k b)

        new : get_or choices' (number tables s t) 0 ≡ j
        new = ap (λ (l : List ℕ). get_or l (number tables s t) 0) ec ∙ get_or-set_same W.choices.now (number tables s t) j 0 here-noted

  -- ---- the pair's transition

  module _ {j : ℕ} {sets todo₁ : List ℕ} (f : PairChosen tables W.todo.now s t j sets todo₁) where
    -- the pair with its transition
    pub step-choice : ChoiceGiven tables s t j
    step-choice = record { loaded = given.ranked.loaded; lost = here-lost; choice = f.choice }

    pub enough : most_states ≤ height todo₁
    enough = omega (arith, p.walking.given.rows, ap (λ (n : ℕ). n / words) f.removed.same-todo)

    -- what handing on its count rests on
    pub step_count : HandGiven tables s t j sets W.counts.now W.walk.bytes
    step_count =
        record {
          loaded = given.ranked.loaded;
          lost = here-lost;
          choice = f.choice;
          words = f.words_room;
          told = f.told;
          tally = p.walking.tally;
        }

    module _ {ts : List ℕ} (et : ts ≡ targets (first_step tables j)) where
      -- what adding the pairs below it rests on
      pub step_children : ChildrenLent ts sets todo₁
      step_children = record { few = few-targets step-choice et; words = f.words_room; rows = enough; low = state-low step-choice et }

      -- a pair below it is not kept either, and its rank is lower
      below : (u v : ℕ) → T (any (length ts) (child ts sets u v)) → Lost tables u v × (rank M N u v < rank M N s t)
      below u v h =
          let q = any_some (length ts) (child ts sets u v) h in
          let i = q.0 in
          subst (λ (k : ℕ). Lost tables k v × (rank M N k v < rank M N s t)) (eqb→eq (get_or ts i 0) u (and_left (eqb (get_or ts i 0) u) (member (row_of sets i) v) q.2))
          (child-lost step-choice et f.told i v q.1 (and_right (eqb (get_or ts i 0) u) (member (row_of sets i) v) q.2))

      rest_in : (u v : ℕ) → T (member (row_of todo₁ u) v) → ToDo W u v × ((u ≡ s) × (v ≡ t) → ⊥)
      rest_in u v h =
          let q = subst T (f.removed.is u v) h in (
            and_left (member (row_of W.todo.now u) v) _ q,
            λ e. T_not (eqb u s && eqb v t) (and_right (member (row_of W.todo.now u) v) _ q) (and_both (eqb u s) (eqb v t) (same_eqb e.0) (same_eqb e.1)),
          )

      rest_keeps : (u v : ℕ) → ToDo W u v → ((u ≡ s) × (v ≡ t) → ⊥) → T (member (row_of todo₁ u) v)
      rest_keeps u v h d =
          subst T (sym (f.removed.is u v))
          (and_both (member (row_of W.todo.now u) v) _ h (not_T (eqb u s && eqb v t) (λ q. d (eqb→eq u s (and_left (eqb u s) (eqb v t) q), eqb→eq v t (and_right (eqb u s) (eqb v t) q)))))

      module _ (V : Trail) (eo : V.order.now ≡ set order n (number tables s t)) (ec : V.choices.now ≡ set W.choices.now (number tables s t) j) (en : V.walk.count ≡ n + 1)
          (a : ChildrenAdded ts sets (length ts) todo₁ (mask W.walk.rows) V.todo.now (mask V.walk.rows)) where
        -- a pair to be passed was so before, or is below this one
        cases : (u v : ℕ) → ToDo V u v → T (any (length ts) (child ts sets u v)) ⊎ (ToDo W u v × ((u ≡ s) × (v ≡ t) → ⊥))
        cases u v h = ⊎_elim inl (λ q. inr (rest_in u v q)) (or_cases (any (length ts) (child ts sets u v)) _ (subst T (a.listed u v) h))

        others : (u v : ℕ) → ToDo W u v → ((u ≡ s) × (v ≡ t) → ⊥) → ToDo V u v
        others u v h d = subst T (sym (a.listed u v)) (or_right (any (length ts) (child ts sets u v)) _ (rest_keeps u v h d))

        here_or_not : (u v : ℕ) → Dec ((u ≡ s) × (v ≡ t))
        here_or_not u v = go (ℕ_discrete u s) (ℕ_discrete v t)
          where
            go : Dec (u ≡ s) → Dec (v ≡ t) → Dec ((u ≡ s) × (v ≡ t))
            go (yes a) (yes b) = yes (a, b)
            go (yes a) (no d) = no (λ e. d e.1)
            go (no d) _ = no (λ e. d e.0)

        same_number : (u v : ℕ) → (u ≡ s) × (v ≡ t) → get_or V.order.now n 0 ≡ number tables u v
        same_number u v e = order_new eo en ∙ ap₂ (number tables) (sym e.0) (sym e.1)

        -- this pair is below a pair that is listed, or another is
        after : (k : ℕ) → k < n → (u v : ℕ) → ToDo W u v ⊎ Later order n k (number tables u v) → ToDo V u v ⊎ Later V.order.now V.walk.count k (number tables u v)
        after k b u v (inr l) = inr (l.0, l.1, omega (arith, l.2, en), order-old eo en l.0 l.2 ∙ l.3)
        after k b u v (inl h) = at (here_or_not u v)
          where
            at : Dec ((u ≡ s) × (v ≡ t)) → ToDo V u v ⊎ Later V.order.now V.walk.count k (number tables u v)
            at (yes e) = inr (n, b, omega (arith, en), same_number u v e)
            at (no d) = inl (others u v h d)

        new_at : Above tables (λ u v. ToDo V u v ⊎ Later V.order.now V.walk.count n (number tables u v)) (number tables s t)
        new_at =
            let P : ℕ → ℕ → Type 0 = λ s t. (i v : ℕ) → i < length (chosen M N s t).entries → T (set_of M N s t i v)
            → ToDo V (target_at (chosen M N s t) i) v ⊎ Later V.order.now V.walk.count n (number tables (target_at (chosen M N s t) i) v) in
            record {
              lost = at-number tables (Lost tables) s t here-lost.right here-lost;
              below = at-number tables P s t here-lost.right (λ i v b h.
                  let c : i < length ts = omega (arith, count-is step-choice et) in
                  inl (subst T (sym (a.listed (target_at (chosen M N s t) i) v))
                  (or_left (any (length ts) (child ts sets (target_at (chosen M N s t) i) v)) _
                  (some-any (length ts) (child ts sets (target_at (chosen M N s t) i) v) i c
                  (and_both (eqb (get_or ts i 0) (target_at (chosen M N s t) i)) (member (row_of sets i) v) (same_eqb (targets-are step-choice et i)) (subst (λ (X : Test). T (X v)) (sym (set_at step-choice et f.told i c)) h))))));
            }

        -- the pair is passed: it is listed, and the pairs below it are to be passed
        pub taken : Tallied tables W.counts.now W.walk.bytes V.counts.now V.walk.bytes → Kept W V → PairPassed tables r s t W V
        taken tallied kept =
            record {
              passed = record {
                passing = record {
                  fits = omega (arith, en, here-room, ap length eo, length-set order n (number tables s t));
                  few = omega (arith, en, here-count);
                  open_row = λ u v q.
                      subst T (sym (a.opened u))
                      (⊎_elim
                      (λ k. let i = any_some (length ts) (child ts sets u v) k in
                      or_left (any (length ts) (λ i. eqb (get_or ts i 0) u)) _ (some-any (length ts) (λ i. eqb (get_or ts i 0) u) i.0 i.1 (and_left (eqb (get_or ts i.0 0) u) (member (row_of sets i.0) v) i.2)))
                      (λ k. or_right (any (length ts) (λ i. eqb (get_or ts i 0) u)) _ (passing.open_row u v k.0))
                      (cases u v q));
                  lost = λ u v q. ⊎_elim (λ k. (below u v k).0) (λ k. passing.lost u v k.0) (cases u v q);
                  most = λ u v q. ⊎_elim (λ k. omega (arith, (below u v k).1, p.this_rank)) (λ k. passing.most u v k.0) (cases u v q);
                  at = by_place eo en (λ k p. Above tables (λ u v. ToDo V u v ⊎ Later V.order.now V.walk.count k (number tables u v)) p)
                      (λ k b. let l = passing.at k b in record { lost = l.lost; below = λ i v c h. after k b _ v (l.below i v c h) }) new_at;
                  high = by_place eo en (λ k p. r ≤ rank M N (row tables p) (column tables p)) passing.high
                      (at-number tables (λ u v. r ≤ rank M N u v) s t here-lost.right (omega (arith, p.this_rank)));
                  gone = by_place eo en (λ k p. ToDo V (row tables p) (column tables p) → ⊥)
                      (λ k b q. ⊎_elim (λ c. absurd (omega (arith, (below _ _ c).1, passing.high k b, p.this_rank))) (λ c. passing.gone k b c.0) (cases _ _ q))
                      (at-number tables (λ u v. ToDo V u v → ⊥) s t here-lost.right here-gone);
                  once = λ k l b c e. different k l b c e (ℕ_discrete l n);
                  noted = also_noted eo en f.choice ec;
                };
                tallied = tallied;
                old = λ u v q e. ⊎_elim (λ k. absurd (omega (arith, (below u v k).1, p.this_rank))) (λ k. k.0) (cases u v q);
                stays = λ u v h. stays u v h (here_or_not u v);
                kept = kept;
              };
              gone = here-gone;
              others = others;
            }
          where
            here-gone : ToDo V s t → ⊥
            here-gone q = ⊎_elim (λ k. absurd (omega (arith, (below s t k).1))) (λ k. k.1 (refl, refl)) (cases s t q)

            different : (k l : ℕ) → k < l → l < V.walk.count → get_or V.order.now k 0 ≡ get_or V.order.now l 0 → Dec (l ≡ n) → ⊥
            different k l b c e (yes q) =
                let kn : k < n = omega (arith, q) in
                not_listed k kn (sym (order-old eo en k kn) ∙ e ∙ ap (λ (i : ℕ). get_or V.order.now i 0) q ∙ order_new eo en)
            different k l b c e (no d) =
                let ln : l < n = omega (arith, d, en) in
                passing.once k l b ln (sym (order-old eo en k (omega arith)) ∙ e ∙ order-old eo en l ln)

            stays : (u v : ℕ) → Seen tables W u v → Dec ((u ≡ s) × (v ≡ t)) → ToDo V u v ⊎ Found V.order.now V.walk.count (number tables u v)
            stays u v (inr f) _ = inr (f.0, omega (arith, f.1, en), order-old eo en f.0 f.1 ∙ f.2)
            stays u v (inl h) (yes e) = inr (n, omega (arith, en), same_number u v e)
            stays u v (inl h) (no d) = inl (others u v h d)
