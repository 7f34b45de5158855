-- How counts are handed on: to the members of a set, to the pairs below all targets of a transition, and from a pair to those below it.
-- Assumes nothing.
use Rattle.form.specs.declared.tables.Tables.{Tables}
use mathlib.Core.Path.{◌≡◌, refl, sym, ap, ap₂, ◌∙◌, subst}
use mathlib.Core.Bool.{Bool, true, false, not, ◌&&◌, and-true, and-false}
use mathlib.Core.List.{List}
use Prim.Native.Nat.{ℕ, zero, suc, ◌+◌, ◌*◌, ◌^◌, ◌≤◌, ◌<◌, zero-le}
use native.Mathlib.Nat.{mul-le-mul_right}
use native.Mathlib.Omega.{arith}
use native.Mathlib.Decide.{ℕ_discrete}
use lib.Dec.{T, eqb}
use lib.ListN.{length, get_or, set, length-set}
use lib.Seq.{get_or-set_same, get_or-set_other}
use borrow.Author.Tests.{eq-eqb, ne_eqb}
use Rattle.simulation.specs.Limits.{most_states, most_pairs}
use Rattle.form.specs.Tables.{first_table, contract_table, first_step}
use Rattle.simulation.specs.Sum.{sum, when}
use Rattle.simulation.specs.Table.{Table, targets, states_of}
use Rattle.simulation.specs.Round.{pairs}
use Rattle.simulation.specs.Length.{head_length, pair_length}
use Rattle.simulation.proofs.Finite.Sums.{sum_bound, sum-none, sum_more, when-most}
use Rattle.form.proofs.Contract.{contract-few, contract-pairs}
use Rattle.word.specs.Mask.{Test, member, without_member, Lowest}
use Rattle.relation.specs.Rows.{row_of}
use Rattle.word.proofs.Mask.{member-none}
use Rattle.choice.specs.Choice.{Lost}
use Rattle.counting.proofs.Pairs.{same_pair, place-below, lost-place, member-holds, without_in}
use Rattle.counting.proofs.Targets.{ChoiceGiven, few-targets, state-at, state-low, state-row, child-lost, length-parts}
use Rattle.counting.proofs.Owed.{owed_none, owed-set, owed_children}
use Rattle.counting.specs.Count.{longest, owed, Within, RowAdded, child, CountsGiven, CountsAdded, Tally, Tallied, OneCounted, HandGiven}

-- four bytes for each part
sum_fours : (n : ℕ) (f : ℕ → ℕ) → sum n (λ i. 4 + f i) ≡ 4 * n + sum n f
unfolding sum
sum_fours zero f = refl
sum_fours (suc n) f = omega (arith, sum_fours n f)

-- ---- the members of a set

-- those left are still to be counted c times more
pub record RowLoop (width s members c : ℕ) (counts₀ counts : List ℕ) (left : ℕ) : Type 0 where
  pub size : length counts ≡ length counts₀
  pub due : (u v : ℕ) → v < width
      → get_or counts (u * width + v) 0 + when (eqb s u && member left v) c ≡ get_or counts₀ (u * width + v) 0 + when (eqb s u && member members v) c
  pub kept : (t : ℕ) → T (member left t) → T (member members t)

module _ {width s members c : ℕ} {counts₀ counts : List ℕ} {left : ℕ} (w : Within counts₀ width s members c) (l : RowLoop width s members c counts₀ counts left)
    {t : ℕ} (low : Lowest (member left) t) where
  -- the lowest member left is inside the row, has its place, and its count can be raised
  member-inside : t < width
  member-inside = w.inside t (l.kept t (member-holds low))

  pub member-place : s * width + t < length counts
  member-place = omega (arith, member-inside, w.room, l.size)

  due_here : (b : Bool) → b ≡ true → get_or counts (s * width + t) 0 + when (b && member left t) c ≡ get_or counts (s * width + t) 0 + c
  due_here b e = ap₂ (λ p q. get_or counts (s * width + t) 0 + when (p && q) c) e low.here

  -- it is counted and is no longer left
  pub row_turn : {left' : ℕ} → member left' ≡ without_member t (member left)
      → RowLoop width s members c counts₀ (set counts (s * width + t) (get_or counts (s * width + t) 0 + c)) left'
  row_turn {left'} e =
      record {
        size = length-set counts (s * width + t) _ ∙ l.size;
        due = λ u v b. at u v b (ℕ_discrete u s) (ℕ_discrete v t) ∙ l.due u v b;
        kept = λ u h. l.kept u (without_in t left u e h);
      }
    where
      new : List ℕ
      new = set counts (s * width + t) (get_or counts (s * width + t) 0 + c)

      gone : member left' t ≡ false
      gone = ap (λ (X : Test). X t) e ∙ ap (λ b. member left t && not b) (eq-eqb t t refl) ∙ and-false (member left t)

      other : (u v : ℕ) → v < width → ((u ≡ s) × (v ≡ t) → ⊥) → (eqb s u && member left' v) ≡ (eqb s u && member left v)
          → get_or new (u * width + v) 0 + when (eqb s u && member left' v) c ≡ get_or counts (u * width + v) 0 + when (eqb s u && member left v) c
      other u v b d q =
          ap₂ (λ (n : ℕ) (p : Bool). n + when p c)
          (get_or-set_other counts (s * width + t) (u * width + v) (get_or counts (s * width + t) 0 + c) 0 (λ k. d (same_pair u v s t width b member-inside k)))
          q

      at : (u v : ℕ) → v < width → Dec (u ≡ s) → Dec (v ≡ t)
          → get_or new (u * width + v) 0 + when (eqb s u && member left' v) c ≡ get_or counts (u * width + v) 0 + when (eqb s u && member left v) c
      at u v b (no d) _ =
          let none : eqb s u ≡ false = ne_eqb s u (λ k. d (sym k)) in
          other u v b (λ k. d k.0) (ap (λ p. p && member left' v) none ∙ sym (ap (λ p. p && member left v) none))
      at u v b (yes _) (no d) =
          other u v b (λ k. d k.1) (ap (λ p. eqb s u && p) (ap (λ (X : Test). X v) e ∙ ap (λ p. member left v && not p) (ne_eqb v t d) ∙ and-true (member left v)))
      at u v b (yes p) (yes q) =
          subst (λ (u : ℕ). get_or new (u * width + v) 0 + when (eqb s u && member left' v) c ≡ get_or counts (u * width + v) 0 + when (eqb s u && member left v) c) (sym p)
          (subst (λ (v : ℕ). get_or new (s * width + v) 0 + when (eqb s s && member left' v) c ≡ get_or counts (s * width + v) 0 + when (eqb s s && member left v) c) (sym q)
          (omega (
            arith,
            get_or-set_same counts (s * width + t) (get_or counts (s * width + t) 0 + c) 0 member-place,
            ap (λ p. when (eqb s s && p) c) gone,
            ap (λ p. when p c) (and-false (eqb s s)),
            due_here (eqb s s) (eq-eqb s s refl),
          )))

-- when none is left, all members are counted
pub counting_end : {width s members c : ℕ} {counts₀ counts : List ℕ} {left : ℕ} → RowLoop width s members c counts₀ counts left → left ≡ 0 → RowAdded width s members c counts₀ counts
counting_end {s = s} {c = c} {left = left} l z =
    record {
      at = λ u v b.
          omega (arith, l.due u v b, ap (λ p. when (eqb s u && p) c) (ap (λ (k : ℕ). member k v) z ∙ member-none v), ap (λ p. when p c) (and-false (eqb s u)));
    }

-- ---- the targets of a transition

-- the counts of the targets before i are raised
pub record CountsLoop (targets sets : List ℕ) (width c : ℕ) (counts₀ counts : List ℕ) (i : ℕ) : Type 0 where
  pub inside : i ≤ length targets
  pub same-counts : length counts ≡ length counts₀
  pub added : CountsAdded targets sets width c i counts₀ counts

-- at first no count is raised
pub counts_start : (targets sets : List ℕ) (width c : ℕ) (counts : List ℕ) → CountsLoop targets sets width c counts counts 0
counts_start targets sets width c counts =
    record { inside = zero-le; same-counts = refl; added = record { at = λ u v _. omega (arith, sum-none (λ i. when (child targets sets u v i) c)) } }

module _ {targets sets : List ℕ} {width c : ℕ} {counts₀ counts : List ℕ} {i : ℕ} (g : CountsGiven targets sets width c counts₀)
    (l : CountsLoop targets sets width c counts₀ counts i) (lt : i < length targets) where
  -- the next target's members can be counted
  pub child-within : (members : ℕ) → members ≡ row_of sets i → Within counts width (get_or targets i 0) members c
  child-within members e =
      record {
        narrow = g.narrow;
        low = g.low i lt;
        inside = λ t h. g.inside i t lt (subst (λ (k : ℕ). T (member k t)) e h);
        room = omega (arith, g.room i lt, l.same-counts);
        small = λ t b. omega (
          arith,
          g.small i t lt b,
          l.added.at (get_or targets i 0) t b,
          sum_bound i c (λ k. when (child targets sets (get_or targets i 0) t k) c) (λ k _. when-most (child targets sets (get_or targets i 0) t k) c),
          mul-le-mul_right c (let h : i + 1 ≤ most_states = omega (arith, g.few) in h),
        );
      }

  -- they are counted
  pub counts-next : {counts' : List ℕ} {members : ℕ} → members ≡ row_of sets i → length counts' ≡ length counts → RowAdded width (get_or targets i 0) members c counts counts'
      → CountsLoop targets sets width c counts₀ counts' (i + 1)
  counts-next {counts'} {members} is e r =
      record {
        inside = omega arith;
        same-counts = e ∙ l.same-counts;
        added = record { at = λ u v b. omega (arith, r.at u v b, ap (λ (k : ℕ). when (eqb (get_or targets i 0) u && member k v) c) is, l.added.at u v b, sum_more i (λ k. when (child targets sets u v k) c) refl) };
      }

-- ---- transitions counted one after another

-- at first no transition is counted, and then some more are
pub tallied-start : {tables : Tables} {counts : List ℕ} {bytes : ℕ} → Tally tables counts bytes → Tallied tables counts bytes counts bytes
tallied-start t = record { tally = t; total = refl }

pub tallied-next : {tables : Tables} {counts₀ : List ℕ} {bytes₀ : ℕ} {counts : List ℕ} {bytes : ℕ} {counts' : List ℕ} {bytes' : ℕ}
    → Tallied tables counts₀ bytes₀ counts bytes → Tallied tables counts bytes counts' bytes' → Tallied tables counts₀ bytes₀ counts' bytes'
tallied-next p q = record { tally = q.tally; total = q.total ∙ p.total }

-- ---- a pair hands on its count

module _ {tables : Tables} {s t j : ℕ} {sets counts : List ℕ} {bytes : ℕ} (g : HandGiven tables s t j sets counts bytes) where
  abbrev M : Table
  M = first_table tables

  abbrev N : Table
  N = contract_table tables

  abbrev due : ℕ
  due = get_or counts (s * states_of N + t) 0

  abbrev cleared : List ℕ
  cleared = set counts (s * states_of N + t) 0

  -- the pair with its transition
  pub hand_choice : ChoiceGiven tables s t j
  hand_choice = record { loaded = g.loaded; lost = g.lost; choice = g.choice }

  -- the same by a width that is the number of states of the contract
  pub hand_place : (width : ℕ) → width ≡ states_of N → s * width + t < length counts
  hand_place width e = omega (arith, ap (λ (n : ℕ). s * n + t) e, lost-place g.lost, g.tally.room)

  pub hand_low : (width : ℕ) → width ≡ states_of N → s * width + t < most_pairs
  hand_low width e = omega (arith, ap (λ (n : ℕ). s * n + t) e, lost-place g.lost, contract-pairs tables g.loaded)

  due_small : due ≤ bytes
  due_small = g.tally.few s t g.lost.left g.lost.right

  owed-less : owed M N cleared + due * pair_length M N s t ≡ owed M N counts
  owed-less = omega (arith, owed-set M N counts s t 0 g.lost.left g.lost.right g.tally.room)

  -- a count is as before or 0
  cleared-small : (u v : ℕ) → u < states_of M → v < states_of N → get_or cleared (u * states_of N + v) 0 ≤ bytes
  cleared-small u v a b = at (ℕ_discrete (u * states_of N + v) (s * states_of N + t))
    where
      at : Dec (u * states_of N + v ≡ s * states_of N + t) → get_or cleared (u * states_of N + v) 0 ≤ bytes
      at (yes e) = omega (arith, ap (λ (k : ℕ). get_or cleared k 0) e ∙ get_or-set_same counts (s * states_of N + t) 0 0 (hand_place (states_of N) refl))
      at (no d) = omega (arith, get_or-set_other counts (s * states_of N + t) (u * states_of N + v) 0 0 d, g.tally.few u v a b)

  module _ {ts : List ℕ} (et : ts ≡ targets (first_step tables j)) where
    fits : bytes ≤ longest → bytes + due * (head_length + 4 * length ts) < 2 ^ 30
    fits under =
        omega (
          arith,
          few-targets hand_choice et,
          mul-le-mul_right (head_length + 4 * length ts) (let h : due ≤ longest = omega (arith, due_small) in h),
        )

    raised : bytes ≤ longest → CountsGiven ts sets (states_of N) due cleared
    raised under =
        record {
          few = few-targets hand_choice et;
          words = omega (arith, few-targets hand_choice et, g.words);
          narrow = contract-few tables g.loaded;
          low = state-low hand_choice et;
          room = λ i b. omega (arith, state-row hand_choice et i b, g.tally.room, length-set counts (s * states_of N + t) 0);
          inside = λ i u b h. (child-lost hand_choice et g.told i u b h).0.right;
          small = λ i u b l. omega (arith, cleared-small (get_or ts i 0) u (state-at hand_choice et i b) l, due_small);
        }

    -- the pair's length, with the four bytes of each target apart
    split_length : pair_length M N s t
        ≡ head_length + (4 * length ts + sum (length ts) (λ i. sum (states_of N) (λ u. when (member (row_of sets i) u) (pair_length M N (get_or ts i 0) u))))
    split_length =
        length-parts hand_choice et g.told ∙ ap (◌+◌ head_length) (sum_fours (length ts) (λ i. sum (states_of N) (λ u. when (member (row_of sets i) u) (pair_length M N (get_or ts i 0) u))))

    handed : bytes ≤ longest → {counts' : List ℕ} → length counts' ≡ length counts → CountsAdded ts sets (states_of N) due (length ts) cleared counts'
        → Tallied tables counts bytes counts' (bytes + due * (head_length + 4 * length ts))
    handed under {counts'} e a =
        record {
          tally = record {
            room = omega (arith, g.tally.room);
            few = λ u v l b. omega (
              arith,
              a.at u v b,
              cleared-small u v l b,
              sum_bound (length ts) due (λ i. when (child ts sets u v i) due) (λ i _. when-most (child ts sets u v i) due),
            );
            small = fits under;
          };
          total = omega (arith, owed-less, owed_children M N ts sets due (length ts) cleared counts' (state-at hand_choice et) a.at, ap (λ (n : ℕ). due * n) split_length);
        }

module _ {tables : Tables} {s t j : ℕ} {sets counts : List ℕ} {bytes : ℕ} (g : HandGiven tables s t j sets counts bytes) (under : bytes ≤ longest)
    {ts : List ℕ} (et : ts ≡ targets (first_step tables j)) (width : ℕ) (e : width ≡ states_of (contract_table tables)) where
  -- the bytes stay small, the counts below can be raised, and what is owed goes down by what is counted
  pub hand_fits : bytes + get_or counts (s * width + t) 0 * (head_length + 4 * length ts) < 2 ^ 30
  hand_fits = subst (λ (n : ℕ). bytes + get_or counts (s * n + t) 0 * (head_length + 4 * length ts) < 2 ^ 30) (sym e) (fits g et under)

  pub hand_counts : CountsGiven ts sets width (get_or counts (s * width + t) 0) (set counts (s * width + t) 0)
  hand_counts = subst (λ (n : ℕ). CountsGiven ts sets n (get_or counts (s * n + t) 0) (set counts (s * n + t) 0)) (sym e) (raised g et under)

  pub handed_on : {counts' : List ℕ} → length counts' ≡ length counts
      → CountsAdded ts sets width (get_or counts (s * width + t) 0) (length ts) (set counts (s * width + t) 0) counts'
      → Tallied tables counts bytes counts' (bytes + get_or counts (s * width + t) 0 * (head_length + 4 * length ts))
  handed_on {counts'} same =
      subst (λ (n : ℕ). CountsAdded ts sets n (get_or counts (s * n + t) 0) (length ts) (set counts (s * n + t) 0) counts'
      → Tallied tables counts bytes counts' (bytes + get_or counts (s * n + t) 0 * (head_length + 4 * length ts))) (sym e)
      (handed g et under same)

-- ---- the root

module _ {tables : Tables} {s t : ℕ} (lost : Lost tables s t) (counts : List ℕ) (room : pairs (first_table tables) (contract_table tables) ≤ length counts)
    (none : (k : ℕ) → k < pairs (first_table tables) (contract_table tables) → get_or counts k 0 ≡ 0) where
  -- the root's count has its place; set to 1 among zeros, it makes the root's length owed
  pub root_in : s * states_of (contract_table tables) + t < length counts
  root_in = omega (arith, lost-place lost)

  pub one-counted : OneCounted tables s t (set counts (s * states_of (contract_table tables) + t) 1)
  one-counted =
      let M = first_table tables in
      let N = contract_table tables in
      record {
        tally = record {
          room = omega (arith, length-set counts (s * states_of N + t) 1);
          few = λ u v a b. few u v a b (ℕ_discrete (u * states_of N + v) (s * states_of N + t));
          small = omega arith;
        };
        total = omega (
          arith,
          owed-set M N counts s t 1 lost.left lost.right room,
          owed_none M N counts (λ u v a b. none (u * states_of N + v) (place-below u v (states_of M) (states_of N) a b)),
          ap (λ (n : ℕ). n * pair_length M N s t) (none (s * states_of N + t) (lost-place lost)),
        );
      }
    where
      few : (u v : ℕ) → u < states_of (first_table tables) → v < states_of (contract_table tables) → Dec (u * states_of (contract_table tables) + v ≡ s * states_of (contract_table tables) + t)
          → get_or (set counts (s * states_of (contract_table tables) + t) 1) (u * states_of (contract_table tables) + v) 0 ≤ 1
      few u v a b (yes e) =
          omega (
            arith,
            ap (λ (k : ℕ). get_or (set counts (s * states_of (contract_table tables) + t) 1) k 0) e ∙ get_or-set_same counts (s * states_of (contract_table tables) + t) 1 0 root_in,
          )
      few u v a b (no d) =
          omega (
            arith,
            get_or-set_other counts (s * states_of (contract_table tables) + t) (u * states_of (contract_table tables) + v) 1 0 d,
            none (u * states_of (contract_table tables) + v) (place-below u v (states_of (first_table tables)) (states_of (contract_table tables)) a b),
          )
