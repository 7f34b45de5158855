-- The length of a pair from those of the pairs below it, where long ones are given as the greatest number.
-- Assumes nothing.
use Rattle.form.specs.declared.tables.Tables.{Tables}
use mathlib.Core.Path.{◌≡◌, refl, sym, ap, ◌∙◌, subst}
use mathlib.Core.Bool.{Bool, true, false, ◌&&◌}
use mathlib.Core.List.{List, [], ◌∷◌, ◌++◌}
use Rattle.std.specs.Prelude.{Option, Some, None}
use mathlib.Core.Logic.{◌≢◌}
use Prim.Native.Nat.{ℕ, zero, suc, ◌+◌, ◌*◌, ◌/◌, ◌%◌, ◌≤◌, ◌<◌, min, zero-le}
use native.Mathlib.Nat.{le_refl, mul-le-mul_right, div-add-mod'}
use native.Mathlib.Omega.{arith}
use native.Mathlib.Decide.{ℕ_discrete}
use lib.Dec.{T, eqb, eqb→eq, ltb, ltb→lt, lt→ltb}
use lib.ListN.{length, get_or, set, take, length-set, length-append}
use lib.Seq.{get_or-set_same, get_or-set_other, get_or-take, length-take-le, get_or-append_seam, take-append_seam, take-length, take-take}
use Rattle.simulation.specs.Limits.{most_states, most_pairs}
use Rattle.simulation.specs.Sum.{sum, any, when}
use Rattle.simulation.specs.Table.{Table, targets, target_at, states_of}
use Rattle.simulation.specs.Round.{pairs}
use Rattle.simulation.specs.Tree.{chosen, set_of}
use Rattle.simulation.specs.Length.{head_length, one_length, pair_length, tree_length}
use Rattle.simulation.proofs.Finite.Sums.{sum_bound, sum_term, sum-none, sum_more, when-most}
use Rattle.simulation.proofs.Finite.Tests.{and_left, and_right, and_both, same_eqb, any_some, some-any}
use Rattle.simulation.proofs.Trees.Length.{pair_length-step}
use Rattle.form.specs.Tables.{first_form, first_table, contract_table, first_step, BothLoaded}
use Rattle.form.proofs.FormLaws.{sound}
use Rattle.form.proofs.Contract.{contract-few, contract-pairs}
use Rattle.word.specs.Mask.{Test, member}
use Rattle.relation.specs.Rows.{row_of}
use Rattle.relate.specs.Ranked.{RanksRight}
use Rattle.choice.specs.Choice.{Lost, Choice, SetsChosen}
use Rattle.choice.proofs.Choices.{below-lost}
use Rattle.counting.specs.Count.{longest}
use Rattle.counting.specs.Pair.{number, row, column}
use Rattle.counting.proofs.Pairs.{from-number, lost-place, lost-low, number-place}
use Rattle.counting.proofs.Targets.{ChoiceGiven, targets-are, count-is, few-targets, state-low, state-row, set_at, child-lost, length-parts}
use Rattle.passing.specs.Passing.{Found, Later, Above, PairNoted}
use Rattle.order.specs.Order.{Ordered}
use Rattle.measure.specs.Lengths.{set_length, SumGiven, NotAbove, Measured, most, children_length, most_children, ChildrenGiven, Holds, MeasureGiven, PairGiven, AllHold, TreeMeasured}

-- ---- the loop over the children

-- a set of pairs has at most one of each state, each of at most the greatest length
set-small : (width : ℕ) (lengths : List ℕ) (s : ℕ) (X : Test) → width ≤ most_states → ((i : ℕ) → get_or lengths i 0 ≤ most) → set_length width lengths s X ≤ most_states * most
set-small width lengths s X w h =
    omega (
      arith,
      sum_bound width most (λ t. when (X t) (get_or lengths (s * width + t) 0)) (λ t _. omega (arith, when-most (X t) (get_or lengths (s * width + t) 0), h (s * width + t))),
      mul-le-mul_right most w,
    )

-- the length of the children before i
pub record LengthLoop (tables : Tables) (lengths targets sets : List ℕ) (len i : ℕ) : Type 0 where
  pub is : len ≡ children_length (states_of (contract_table tables)) lengths targets sets i
  pub inside : i ≤ length targets

-- at first there is none
pub length-start : (tables : Tables) (lengths targets sets : List ℕ) → LengthLoop tables lengths targets sets 0 0
length-start tables lengths targets sets = record { is = sum-none _; inside = zero-le }

module _ {tables : Tables} {lengths targets sets : List ℕ} (g : ChildrenGiven tables lengths targets sets) (small : (i : ℕ) → get_or lengths i 0 ≤ most) where
  abbrev width : ℕ
  width = states_of (contract_table tables)

  node_small : (i : ℕ) → set_length width lengths (get_or targets i 0) (member (row_of sets i)) ≤ most_states * most
  node_small i = set-small width lengths (get_or targets i 0) (member (row_of sets i)) (contract-few tables g.loaded) small

  all_small : (n : ℕ) → n ≤ most_states → children_length width lengths targets sets n ≤ most_children
  all_small n h =
      omega (
        arith,
        sum_bound n (4 + most_states * most) (λ i. 4 + set_length width lengths (get_or targets i 0) (member (row_of sets i))) (λ i _. omega (arith, node_small i)),
        mul-le-mul_right (4 + most_states * most) h,
      )

  module _ {len i : ℕ} (l : LengthLoop tables lengths targets sets len i) where
    -- after the last child it is the length of all, and small
    pub length-end : length targets ≤ i → (len ≡ children_length width lengths targets sets (length targets)) × (len ≤ most_children)
    length-end h =
        let e : i ≡ length targets = omega (arith, l.inside) in
        (l.is ∙ ap (children_length width lengths targets sets) e, omega (arith, l.is, all_small i (omega (arith, g.few))))

    module _ (lt : i < length targets) {m : ℕ} (em : m ≡ row_of sets i) where
      -- the next child's length can be added up, and fits
      pub length_node : SumGiven tables lengths (get_or targets i 0) m
      length_node =
          subst (SumGiven tables lengths (get_or targets i 0)) (sym em)
          (record { loaded = g.loaded; low = g.low i lt; inside = λ t h. g.inside i t lt h; room = g.room i lt; small = omega (arith, node_small i) })

      module _ (r : ℕ) (er : r ≡ 1 + set_length width lengths (get_or targets i 0) (member m)) where
        by_row : r ≡ 1 + set_length width lengths (get_or targets i 0) (member (row_of sets i))
        by_row = er ∙ ap (λ (k : ℕ). 1 + set_length width lengths (get_or targets i 0) (member k)) em

        pub length-fits : (3 + r ≤ 4 + most_states * most) × (len + (3 + r) ≤ most_children + (4 + most_states * most))
        length-fits = (omega (arith, by_row, node_small i), omega (arith, by_row, node_small i, l.is, all_small i (omega (arith, g.few))))

        -- it is added
        pub length-next : LengthLoop tables lengths targets sets (len + (3 + r)) (i + 1)
        length-next =
            record {
              is = omega (arith, by_row, l.is, sum_more i (λ i. 4 + set_length width lengths (get_or targets i 0) (member (row_of sets i))) refl);
              inside = omega arith;
            }

-- ---- least with a bound

min-when : (c : ℕ) (b : Bool) (m n : ℕ) → (T b → min c m ≡ min c n) → min c (when b m) ≡ min c (when b n)
min-when c true m n h = h tt
min-when c false m n h = refl

min-sum : (c n : ℕ) (f g : ℕ → ℕ) → ((i : ℕ) → i < n → min c (f i) ≡ min c (g i)) → min c (sum n f) ≡ min c (sum n g)
unfolding sum
min-sum c zero f g h = refl
min-sum c (suc n) f g h = omega (arith, h n (omega arith), min-sum c n f g (λ i b. h i (omega arith)))

min_plus : (c k m n : ℕ) → min c m ≡ min c n → min c (k + m) ≡ min c (k + n)
min_plus c k m n e = omega (arith, e)

min-same : (c n : ℕ) → min c (min c n) ≡ min c n
min-same c n = omega arith

-- ---- a pair

module _ {tables : Tables} {ranks lengths sets amounts : List ℕ} {s t : ℕ} (g : PairGiven tables ranks lengths sets amounts s t) where
  abbrev M : Table
  M = first_table tables

  abbrev N : Table
  N = contract_table tables

  module _ {j : ℕ} (w : Choice tables s t j) where
    -- the pair with its transition
    pub pair_choice : ChoiceGiven tables s t j
    pair_choice = record { loaded = g.given.ranked.loaded; lost = g.lost; choice = w }

    module _ {ts : List ℕ} (et : ts ≡ targets (first_step tables j)) {sets' : List ℕ} (z : SetsChosen tables s t sets') where
      -- what adding up its children's lengths rests on
      pub pair_children : length sets' ≡ length sets → ChildrenGiven tables lengths ts sets'
      pair_children words =
          record {
            loaded = g.given.ranked.loaded;
            few = few-targets pair_choice et;
            words = omega (arith, few-targets pair_choice et, words, g.given.words);
            low = state-low pair_choice et;
            inside = λ i v b h. (child-lost pair_choice et z i v b h).0.right;
            room = λ i b. omega (arith, state-row pair_choice et i b, g.given.room);
          }

      same-child : (i v : ℕ) → i < length ts → min most (when (member (row_of sets' i) v) (get_or lengths (get_or ts i 0 * states_of N + v) 0))
          ≡ min most (when (member (row_of sets' i) v) (pair_length M N (get_or ts i 0) v))
      same-child i v b =
          min-when most (member (row_of sets' i) v) _ _ (λ h.
          ap (min most) (subst (λ (u : ℕ). Holds tables lengths u v) (sym (targets-are pair_choice et i))
          (g.below i v (omega (arith, count-is pair_choice et)) (subst (λ (X : Test). T (X v)) (set_at pair_choice et z i b) h)))
          ∙ min-same most _)

      pair_total : min most (head_length + children_length (states_of N) lengths ts sets' (length ts)) ≡ min most (pair_length M N s t)
      pair_total =
          min_plus most head_length _ _ (min-sum most (length ts) _ _ (λ i b. min_plus most 4 _ _ (min-sum most (states_of N) _ _ (λ v _. same-child i v b))))
          ∙ ap (min most) (sym (length-parts pair_choice et z))

      module _ (r : ℕ) (er : r ≡ children_length (states_of N) lengths ts sets' (length ts)) where
        -- the sum, cut at the greatest number, is the pair's length
        pub pair-least : min (head_length + r) most ≡ min most (pair_length M N s t)
        pair-least = omega (arith, er, pair_total)

-- ---- the walk up the list

-- what is lent keeps its lengths
measure_still : {tables : Tables} {ranks lengths sets amounts lengths' sets' amounts' : List ℕ} → MeasureGiven tables ranks lengths sets amounts
    → length lengths' ≡ length lengths → length sets' ≡ length sets → length amounts' ≡ length amounts → MeasureGiven tables ranks lengths' sets' amounts'
measure_still g e es ea =
    record {
      ranked = g.ranked;
      room = omega (arith, g.room, e);
      words = omega (arith, g.words, es);
      amounts_room = omega (arith, g.amounts_room, ea);
    }

-- the pairs are measured but those of `left`, the list up to some place
pub record MeasureLoop (tables : Tables) (ranks order : List ℕ) (n : ℕ) (lengths₀ sets₀ amounts₀ lengths sets amounts left : List ℕ) : Type 0 where
  pub given : MeasureGiven tables ranks lengths sets amounts
  pub front : left ≡ take (length left) order
  pub inside : length left ≤ n
  pub done : (k : ℕ) → length left ≤ k → k < n → Holds tables lengths (row tables (get_or order k 0)) (column tables (get_or order k 0))
  pub same_lengths : length lengths ≡ length lengths₀
  pub same-sets : length sets ≡ length sets₀
  pub same-amounts : length amounts ≡ length amounts₀

-- at first none is measured
pub measure_start : {tables : Tables} {ranks order lengths sets amounts left : List ℕ} → MeasureGiven tables ranks lengths sets amounts → left ≡ order
    → MeasureLoop tables ranks order (length order) lengths sets amounts lengths sets amounts left
measure_start {order = order} {left = left} g e =
    record {
      given = g;
      front = e ∙ sym (ap (λ (l : List ℕ). take (length l) order) e ∙ take-length order);
      inside = omega (arith, ap length e);
      done = λ k a b. absurd (omega (arith, ap length e));
      same_lengths = refl;
      same-sets = refl;
      same-amounts = refl;
    }

module _ {tables : Tables} {ranks order : List ℕ} {n : ℕ} {lengths₀ sets₀ amounts₀ lengths sets amounts left : List ℕ} (o : Ordered tables order n)
    (l : MeasureLoop tables ranks order n lengths₀ sets₀ amounts₀ lengths sets amounts left) where
  -- after the first place all are measured
  pub measure_end : length left ≡ 0 → AllHold tables order lengths n
  measure_end z = record { at = λ k b. l.done k (omega (arith, z)) b }

  -- p is the last of those that are left
  module _ (left' : List ℕ) (p : ℕ) (last : left ≡ left' ++ p ∷ []) where
    abbrev i : ℕ
    i = length left'

    size : length left ≡ i + 1
    size = ap length last ∙ length-append left' (p ∷ [])

    place : i < n
    place = omega (arith, size, l.inside)

    here : get_or order i 0 ≡ p
    here =
        sym (get_or-take (length left) order i 0 (omega (arith, size)))
        ∙ ap (λ (l : List ℕ). get_or l i 0) (sym l.front ∙ last) ∙ get_or-append_seam left' p [] 0

    front : left' ≡ take i order
    front = sym (take-append_seam left' (p ∷ [])) ∙ ap (take i) (sym last ∙ l.front) ∙ take-take i (length left) order (omega (arith, size))

    listed : Above tables (λ u v. Later order n i (number tables u v)) p
    listed = subst (Above tables (λ u v. Later order n i (number tables u v))) here (o.at i place)

    is_number : number tables (row tables p) (column tables p) ≡ p
    is_number = div-add-mod' p (states_of (contract_table tables))

    low : p < pairs (first_table tables) (contract_table tables)
    low = number-place tables p listed.lost

    pub pair_noted : (choices : List ℕ) → pairs (first_table tables) (contract_table tables) ≤ length choices → p < length choices
    pair_noted choices room = omega (arith, low)

    pub pair_in : (p < length lengths) × (p < most_pairs)
    pair_in = (omega (arith, low, l.given.room), omega (arith, low, contract-pairs tables l.given.ranked.loaded))

    here-given : PairGiven tables ranks lengths sets amounts (row tables p) (column tables p)
    here-given =
        record {
          given = l.given;
          lost = listed.lost;
          below = λ j v b h.
              let q = listed.below j v b h in
              let c = (below-lost tables l.given.ranked.loaded (row tables p) (column tables p) listed.lost j v b h).0.right in
              from-number tables (Holds tables lengths) _ v (get_or order q.0 0) c q.3 (l.done q.0 (omega (arith, q.1, size)) q.2);
        }

    -- that pair can be measured
    pub measure_pair : {choices : List ℕ} → PairNoted tables order n choices → (width : ℕ) → width ≡ states_of (contract_table tables)
        → PairGiven tables ranks lengths sets amounts (p / width) (p % width) × Choice tables (p / width) (p % width) (get_or choices p 0)
    measure_pair {choices} c wide e =
        subst (λ (w : ℕ). PairGiven tables ranks lengths sets amounts (p / w) (p % w) × Choice tables (p / w) (p % w) (get_or choices p 0)) (sym e)
        (here-given, subst (λ (p : ℕ). Choice tables (row tables p) (column tables p) (get_or choices p 0)) here (c.at i place))

    -- its length is noted
    pub measure_next : (width r : ℕ) → width ≡ states_of (contract_table tables) → r ≡ min most (pair_length (first_table tables) (contract_table tables) (p / width) (p % width))
        → {sets' amounts' : List ℕ} → length sets' ≡ length sets → length amounts' ≡ length amounts
        → MeasureLoop tables ranks order n lengths₀ sets₀ amounts₀ (set lengths p r) sets' amounts' left'
    measure_next wide r e er es ea =
        record {
          given = measure_still l.given (length-set lengths p r) es ea;
          front = front;
          inside = omega (arith, place);
          done = λ k a b. at k a b (ℕ_discrete (get_or order k 0) p);
          same_lengths = length-set lengths p r ∙ l.same_lengths;
          same-sets = es ∙ l.same-sets;
          same-amounts = ea ∙ l.same-amounts;
        }
      where
        measured-here : Holds tables (set lengths p r) (row tables p) (column tables p)
        measured-here =
            ap (λ (k : ℕ). get_or (set lengths p r) k 0) is_number
            ∙ get_or-set_same lengths p r 0 pair_in.0
            ∙ er
            ∙ ap (λ (w : ℕ). min most (pair_length (first_table tables) (contract_table tables) (p / w) (p % w))) e

        at : (k : ℕ) → i ≤ k → k < n → Dec (get_or order k 0 ≡ p) → Holds tables (set lengths p r) (row tables (get_or order k 0)) (column tables (get_or order k 0))
        at k a b (yes q) = subst (λ (z : ℕ). Holds tables (set lengths p r) (row tables z) (column tables z)) (sym q) measured-here
        at k a b (no d) =
            let z = get_or order k 0 in
            let other : k ≢ i = λ q. d (ap (λ (j : ℕ). get_or order j 0) q ∙ here) in
            get_or-set_other lengths p (number tables (row tables z) (column tables z)) r 0 (λ q. d (sym (div-add-mod' z (states_of (contract_table tables))) ∙ q))
            ∙ l.done k (omega (arith, other, size)) b

-- ---- the list lent as a part

-- the places of a part have what the list has there
module _ {tables : Tables} {order : List ℕ} {n : ℕ} (o : Ordered tables order n) where
  pub part-size : length (take n order) ≡ n
  part-size = length-take-le n order o.fits

  part_at : (k : ℕ) → k < length (take n order) → get_or (take n order) k 0 ≡ get_or order k 0
  part_at k b = get_or-take n order k 0 (omega (arith, part-size))

  pub part-ordered : Ordered tables (take n order) (length (take n order))
  part-ordered =
      record {
        fits = le_refl _;
        few = omega (arith, part-size, o.few);
        at = λ k b.
            let a = o.at k (omega (arith, part-size)) in
            subst (Above tables (λ u v. Later (take n order) (length (take n order)) k (number tables u v))) (sym (part_at k b))
            (record { lost = a.lost; below = λ i v l h. later k (a.below i v l h) });
      }
    where
      later : (k : ℕ) {p : ℕ} → Later order n k p → Later (take n order) (length (take n order)) k p
      later k q = let l : q.0 < length (take n order) = omega (arith, part-size, q.2) in (q.0, q.1, l, part_at q.0 l ∙ q.3)

  pub part-noted : {choices : List ℕ} → PairNoted tables order n choices → PairNoted tables (take n order) (length (take n order)) choices
  part-noted {choices} c =
      record {
        at = λ k b. subst (λ (p : ℕ). Choice tables (row tables p) (column tables p) (get_or choices p 0)) (sym (part_at k b)) (c.at k (omega (arith, part-size)));
      }

  pub part_hold : {lengths : List ℕ} → AllHold tables (take n order) lengths (length (take n order)) → AllHold tables order lengths n
  part_hold {lengths} a =
      record {
        at = λ k b.
            let l : k < length (take n order) = omega (arith, part-size) in
            subst (λ (p : ℕ). Holds tables lengths (row tables p) (column tables p)) (part_at k l) (a.at k l);
      }

-- ---- the root

-- what asking for the root's length rests on
pub root_asked : {tables : Tables} (lengths : List ℕ) {s t : ℕ} → BothLoaded tables → pairs (first_table tables) (contract_table tables) ≤ length lengths → Lost tables s t
    → BothLoaded tables × (s < most_states) × (t < most_states) × (number tables s t < length lengths)
root_asked lengths l room lost = let low = lost-low lost l in (l, low.0, low.1, omega (arith, lost-place lost))

-- a pair below a pair is not longer
child-short : (tables : Tables) → BothLoaded tables → (s t : ℕ) → Lost tables s t → (i v : ℕ)
    → i < length (chosen (first_table tables) (contract_table tables) s t).entries → T (set_of (first_table tables) (contract_table tables) s t i v)
    → pair_length (first_table tables) (contract_table tables) (target_at (chosen (first_table tables) (contract_table tables) s t) i) v ≤ pair_length (first_table tables) (contract_table tables) s t
unfolding one_length
child-short tables l s t p i v b h =
    let M = first_table tables in
    let N = contract_table tables in
    let parts : ℕ → ℕ = λ i. 4 + sum (states_of N) (λ v. when (set_of M N s t i v) (pair_length M N (target_at (chosen M N s t) i) v)) in
    omega (
      arith,
      pair_length-step M N (sound (first_form tables) l.first) s t p.left p.right p.fell,
      sum_term (length (chosen M N s t).entries) parts i b,
      sum_term (states_of N) (λ v. when (set_of M N s t i v) (pair_length M N (target_at (chosen M N s t) i) v)) v (below-lost tables l s t p i v b h).0.right,
      when-holds (set_of M N s t i v) (pair_length M N (target_at (chosen M N s t) i) v) h,
    )
  where
    when-holds : (b : Bool) (n : ℕ) → T b → when b n ≡ n
    when-holds true n h = refl
    when-holds false n h = absurd h

module _ {tables : Tables} {ranks choices lengths order : List ℕ} {n : ℕ} (g : RanksRight tables ranks) (o : Ordered tables order n) (c : PairNoted tables order n choices)
    (a : AllHold tables order lengths n) (s t : ℕ) (lost : Lost tables s t) (f : Found order n (number tables s t)) where
  abbrev size-at : ℕ → ℕ → ℕ
  size-at u v = get_or lengths (number tables u v) 0

  listed-lost : (u v k : ℕ) → k < n → get_or order k 0 ≡ number tables u v → v < states_of (contract_table tables) → Lost tables u v
  listed-lost u v k b e c = from-number tables (Lost tables) u v (get_or order k 0) c e (o.at k b).lost

  listed-holds : (u v k : ℕ) → k < n → get_or order k 0 ≡ number tables u v → v < states_of (contract_table tables) → Holds tables lengths u v
  listed-holds u v k b e c = from-number tables (Holds tables lengths) u v (get_or order k 0) c e (a.at k b)

  root-holds : Holds tables lengths s t
  root-holds = listed-holds s t f.0 f.1 f.2 lost.right

  -- the pairs that are listed and short
  met : ℕ → ℕ → Bool
  met u v = any n (λ k. eqb (get_or order k 0) (number tables u v)) && (ltb v (states_of (contract_table tables)) && ltb (size-at u v) longest)

  record Met (u v : ℕ) : Type 0 where
    place : ℕ
    listed : place < n
    is : get_or order place 0 ≡ number tables u v
    right : v < states_of (contract_table tables)
    short : size-at u v < longest

  met-is : (u v : ℕ) → T (met u v) → Met u v
  unfolding met
  met-is u v h =
      let all = any n (λ k. eqb (get_or order k 0) (number tables u v)) in
      let q = any_some n (λ k. eqb (get_or order k 0) (number tables u v)) (and_left all _ h) in
      let rest = and_right all _ h in
      record {
        place = q.0;
        listed = q.1;
        is = eqb→eq (get_or order q.0 0) (number tables u v) q.2;
        right = ltb→lt v (states_of (contract_table tables)) (and_left (ltb v (states_of (contract_table tables))) _ rest);
        short = ltb→lt (size-at u v) longest (and_right (ltb v (states_of (contract_table tables))) _ rest);
      }

  is-met : (u v : ℕ) → Met u v → T (met u v)
  unfolding met
  is-met u v m =
      and_both (any n (λ k. eqb (get_or order k 0) (number tables u v))) _
      (some-any n (λ k. eqb (get_or order k 0) (number tables u v)) m.place m.listed (same_eqb m.is))
      (and_both (ltb v (states_of (contract_table tables))) _ (lt→ltb v (states_of (contract_table tables)) m.right) (lt→ltb (size-at u v) longest m.short))

  measured : size-at s t < longest → Measured tables choices lengths s t
  measured short =
      record {
        met = met;
        here = is-met s t (record { place = f.0; listed = f.1; is = f.2; right = lost.right; short = short });
        lost = λ u v h. let m = met-is u v h in listed-lost u v m.place m.listed m.is m.right;
        below = λ u v i w h b c. next u v (met-is u v h) i w b c;
        choice = λ u v h. let m = met-is u v h in
            subst (λ (p : ℕ). Choice tables u v (get_or choices p 0)) m.is
            (from-number tables (λ u v. Choice tables u v (get_or choices (get_or order m.place 0) 0)) u v (get_or order m.place 0) m.right m.is (c.at m.place m.listed));
        right = λ u v h. let m = met-is u v h in omega (arith, listed-holds u v m.place m.listed m.is m.right, m.short);
      }
    where
      next : (u v : ℕ) → Met u v → (i w : ℕ) → i < length (chosen (first_table tables) (contract_table tables) u v).entries → T (set_of (first_table tables) (contract_table tables) u v i w)
          → T (met (target_at (chosen (first_table tables) (contract_table tables) u v) i) w)
      next u v m i w b c =
          let M = first_table tables in
          let N = contract_table tables in
          let p = listed-lost u v m.place m.listed m.is m.right in
          let r = (below-lost tables g.loaded u v p i w b c).0.right in
          let P : ℕ → ℕ → Type 0 = λ u v. (i w : ℕ) → i < length (chosen M N u v).entries → T (set_of M N u v i w) → Later order n m.place (number tables (target_at (chosen M N u v) i) w) in
          let q = from-number tables P u v (get_or order m.place 0) m.right m.is (o.at m.place m.listed).below i w b c in
          let u' = target_at (chosen M N u v) i in
          is-met u' w (record {
            place = q.0;
            listed = q.2;
            is = q.3;
            right = r;
            short = omega (
              arith,
              listed-holds u' w q.0 q.2 q.3 r,
              listed-holds u v m.place m.listed m.is m.right,
              m.short,
              child-short tables g.loaded u v p i w b c,
            );
          })

  -- the tree's length is the root's and one byte more
  pub tree-measured : {len : Option ℕ} → NotAbove longest (1 + size-at s t) len → TreeMeasured tables choices lengths s t len
  tree-measured {len = Some n} e = record { length = (omega (arith, root-holds, e.0, e.1), e.1); measured = λ _. measured (omega (arith, e.0, e.1)) }
  tree-measured {len = None} e = record { length = omega (arith, root-holds, e); measured = λ h. cc }

-- a tree that is too long is measured no further
pub tree-long : {tables : Tables} {choices lengths : List ℕ} {s t : ℕ} → longest < tree_length (first_table tables) (contract_table tables) s t
    → TreeMeasured tables choices lengths s t None
tree-long h = record { length = h; measured = λ e. cc }
