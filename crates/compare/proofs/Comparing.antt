-- From what the functions below give to what a call on two accepted tables does.
-- Assumes nothing.
use Rattle.form.specs.declared.tables.Tables.{Tables}
use mathlib.Core.Path.{◌≡◌, refl, sym, ap, ap₂, ◌∙◌, subst}
use mathlib.Core.Bool.{cond, ◌&&◌}
use mathlib.Core.List.{List}
use mathlib.Core.Logic.{◌≢◌}
use Prim.Native.Nat.{ℕ, ◌+◌, ◌*◌, ◌≤◌, ◌<◌}
use native.Mathlib.Nat.{zero-mul}
use native.Mathlib.Omega.{arith}
use native.Mathlib.Decide.{dec_lt, ℕ_discrete}
use lib.Dec.{eqb}
use borrow.Author.Tests.{lt-ltb}
use lib.ListN.{length, get_or, drop, length-append, get_or-append}
use Rattle.simulation.specs.Fit.{Amounts}
use Rattle.simulation.specs.Table.{Table, states_of}
use Rattle.simulation.specs.Round.{pairs, rank, rank_list, maximum, zeros}
use Rattle.simulation.specs.Demands.{Kept}
use Rattle.simulation.proofs.Simulation.RankList.{rank_list-length, rank_list-at}
use Rattle.form.specs.Tables.{first_table, contract_table}
use Rattle.form.proofs.Contract.{contract-states}
use Rattle.simulation.specs.Limits.{most_pairs, most_states}
use Rattle.pair_tree.proofs.Putting.{count_small}
use Rattle.ranking.specs.Rows.{Open, RanksFilled}
use Rattle.word.specs.Mask.{Test}
use Rattle.relation.specs.Rows.{height}
use Rattle.relation.specs.Related.{related, all_below}
use Rattle.relation.specs.declared.Relation.{Relation}
use Rattle.relate.specs.Ranked.{RanksRight}
use Rattle.choice.specs.Choice.{Lost}
use Rattle.flows.specs.FlowSteps.{KeptPair}
use Rattle.flows.proofs.FlowPlace.{right-amounts}
use Rattle.buffer.specs.Buffer.{over}
use Rattle.counting.specs.Count.{longest}
use Rattle.counting.proofs.Pairs.{place-below}
use Rattle.compare.specs.Outcome.{Buffers, Result, success, lent, left}
use Rattle.simulation.specs.Tree.{tree_bytes}
use Rattle.witness.specs.Shown.{FlowShown, TreeShown}
use Rattle.std.specs.Prelude.{Ok, Err}
use Rattle.answer.specs.Numbers.{refusal}
use Rattle.answer.specs.Refused.{refused, Answered, answer_of}
use Rattle.answer.specs.declared.refusal.Refusal.{Refusal}
use Rattle.answer.specs.declared.refusal.Refusal.TheVariants.{OutsidePair, ShortRanks}
use Rattle.compare.specs.Steps.{RightIfKept, Compared, Chosen, PairRanked, found_answer}
use Rattle.compare.specs.Condition.{Inside, Ready, outside, flow_fits, tree_fits, Condition, short_ranks, short_flow, short_tree, long_tree, result_of}
use Rattle.answer.specs.declared.answer.Answer.{Answer}
use Rattle.compare.proofs.Outcome.{met}

-- no amounts
abbrev pub none-sent : ℕ → Amounts
none-sent k i j = 0

module _ (M N : Table) (s t : ℕ) where
  -- amounts that are right if the pair is kept
  fair_amounts : (x : ℕ → Amounts) × RightIfKept M N s t x
  fair_amounts = go (dec_lt s (states_of M)) (dec_lt t (states_of N)) (ℕ_discrete (rank M N s t) 0)
    where
      go : Dec (s < states_of M) → Dec (t < states_of N) → Dec (Kept M N s t) → (x : ℕ → Amounts) × RightIfKept M N s t x
      go (yes a) (yes c) (yes k) = let r = right-amounts M N s t a c k in (r.0, λ _ _ _. r.1)
      go (no a) d k = (none-sent, λ a' _ _. absurd (a a'))
      go (yes a) (no c) k = (none-sent, λ _ c' _. absurd (c c'))
      go (yes a) (yes c) (no k) = (none-sent, λ _ _ k'. absurd (k k'))

module _ (M N : Table) (room listed s t : ℕ) (b : Buffers) where
  -- the condition says what the call does, whatever amounts there are
  by_condition : {n : ℕ} (c : Condition M N room s t b n) {r : Result} (x : ℕ → Amounts) → RightIfKept M N s t x → r ≡ result_of M N room s t b listed x c → Compared M N room listed s t b r
  by_condition c x f e = record { amounts = x; right = f; result = e ∙ sym (met M N room listed s t b x c) }

  pub is-outside : ¬ Inside M N s t b → Compared M N room listed s t b (left (refused OutsidePair) b)
  is-outside h = let x = fair_amounts M N s t in by_condition (outside h) x.0 x.1 refl

  pub has-short_ranks : {n : ℕ} → Inside M N s t b → n ≡ pairs M N → length b.ranks < n → Compared M N room listed s t b (left (refused (ShortRanks n)) b)
  has-short_ranks i en h =
      let x = fair_amounts M N s t in
      by_condition (short_ranks i (omega arith)) x.0 x.1 (ap (λ (n : ℕ). left (refusal 20 0 n) b) en)

  module _ (ready : Ready M N s t b) {r : Answered} where
    -- a kept pair: what was shown of its flow is what the call does
    flow_compared : Kept M N s t → {flow' : List ℕ} → FlowShown M N room listed s t (success M N s t 0) r b.flow flow' → Compared M N room listed s t b (left (answer_of r) (lent (over (rank_list M N) b.ranks) flow' b.tree))
    unfolding success
    flow_compared k {flow'} f = go (dec_lt (length b.flow) room)
      where
        x : ℕ → Amounts
        x = f.amounts

        at : Answered → List ℕ → Result
        at q l = left (answer_of q) (lent (over (rank_list M N) b.ranks) l b.tree)

        go : Dec (length b.flow < room) → Compared M N room listed s t b (at r flow')
        go (yes h) = by_condition (short_flow ready k h) x (λ _ _ _. f.right) (ap₂ at (f.refused h).0 (f.refused h).1)
        go (no h) = let w = f.written (omega arith) in by_condition (flow_fits ready k (omega arith)) x (λ _ _ _. f.right) (ap₂ at w.0 w.1)

    -- a pair that is not kept
    tree_compared : ¬ Kept M N s t → {tree' : List ℕ} → TreeShown M N s t (success M N s t 0) r b.tree tree' → Compared M N room listed s t b (left (answer_of r) (lent (over (rank_list M N) b.ranks) b.flow tree'))
    unfolding success
    tree_compared k {tree'} f = go (dec_lt longest (length (tree_bytes M N s t))) (dec_lt (length b.tree) (length (tree_bytes M N s t)))
      where
        at : Answered → List ℕ → Result
        at q l = left (answer_of q) (lent (over (rank_list M N) b.ranks) b.flow l)

        fair : RightIfKept M N s t none-sent
        fair _ _ k' = absurd (k k')

        go : Dec (longest < length (tree_bytes M N s t)) → Dec (length b.tree < length (tree_bytes M N s t)) → Compared M N room listed s t b (at r tree')
        go (yes h) d = let w = f.long h in by_condition (long_tree ready k h) none-sent fair (ap₂ at w.0 w.1)
        go (no h) (yes g) = let w = f.refused (omega arith) g in by_condition (short_tree ready k (omega arith) g) none-sent fair (ap₂ at w.0 w.1)
        go (no h) (no g) = let w = f.written (omega arith) (omega arith) in by_condition (tree_fits ready k (omega arith) (omega arith)) none-sent fair (ap₂ at w.0 w.1)

-- the rows of the full relation have every pair
pub all_open : (r : Relation) → related r ≡ all_below most_states most_states → most_states ≤ height r.rows → Open r.rows
unfolding related
all_open r e room =
    record {
      room = room;
      all = λ s t a b. ap (λ (R : ℕ → Test). R s t) e ∙ ap₂ ◌&&◌ (lt-ltb s most_states a) (lt-ltb t most_states b);
    }

-- an accepted call's answer by its parts, but for what is written; z is the rank of (0, 0)
abbrev found_by : (rounds kept z rank : ℕ) → Answer
found_by r k z p = record { number = 0; table = 0; needed = 0; rounds = r; kept = k; verdict = cond (eqb z 0) 1 0; rank = p; written = 0 }

-- the chosen pair
module _ {tables : Tables} {old : List ℕ} {s t : ℕ} (chosen : Chosen tables old s t) where
  abbrev M : Table
  M = first_table tables

  abbrev N : Table
  N = contract_table tables

  pub place-small : {w : ℕ} → w ≡ states_of N → s * w + t < most_pairs
  place-small {w} e =
      let all = count_small chosen.loaded {p = states_of M} refl e in
      omega (arith, place-below s t (states_of M) w chosen.first (omega (arith, chosen.second)), all)

  -- once the ranks are there
  module _ {new : List ℕ} (are : new ≡ over (rank_list M N) old) where
    long-enough : pairs M N ≤ length new
    long-enough =
        subst (λ (l : List ℕ). pairs M N ≤ length l) (sym are)
        (omega (arith, chosen.ranks_room, rank_list-length M N, length-append (rank_list M N) (drop (length (rank_list M N)) old)))

    here : (u v : ℕ) → u < states_of M → v < states_of N → get_or new (u * states_of N + v) 0 ≡ rank M N u v
    here u v a c =
        ap (λ (l : List ℕ). get_or l (u * states_of N + v) 0) are
        ∙ get_or-append (rank_list M N) _ 0 (u * states_of N + v) (omega (arith, rank_list-length M N, place-below u v (states_of M) (states_of N) a c))
        ∙ rank_list-at M N u v a c

    pub ranked-after : RanksRight tables new
    ranked-after = record { loaded = chosen.loaded; enough = long-enough; ranked = here }

    pub place_after : {w : ℕ} → w ≡ states_of N → s * w + t < length new
    place_after width =
        subst (λ (v : ℕ). s * v + t < length new) (sym width)
        (omega (arith, place-below s t (states_of M) (states_of N) chosen.first chosen.second, long-enough))

  -- by what a ranking gives
  module _ {new rows : List ℕ} {rounds kept w : ℕ} (found : RanksFilled tables old new rows rounds kept) (width : w ≡ states_of N) where
    rank-here : get_or new (s * w + t) 0 ≡ rank M N s t
    rank-here = ap (λ (v : ℕ). get_or new (s * v + t) 0) width ∙ here found.ranks_are s t chosen.first chosen.second

    pub kept-after : {amounts : List ℕ} → most_states ≤ height rows → most_pairs ≤ length amounts → get_or new (s * w + t) 0 ≡ 0 → KeptPair tables rows amounts s t
    kept-after a b z =
        record {
          loaded = chosen.loaded;
          rows_room = a;
          rows_kept = found.rows_are;
          amounts_room = b;
          first = chosen.first;
          second = omega (arith, chosen.second, contract-states tables);
          kept = sym rank-here ∙ z;
        }

    module _ {a : Answer} (is : a ≡ found_answer new (s * w + t) rounds kept) where
      answer-after : a ≡ success M N s t 0
      unfolding success
      answer-after =
          is
          ∙ ap₂ (λ (r k : ℕ). found_by r k (get_or new 0 0) (get_or new (s * w + t) 0)) found.rounds_are found.kept_are
          ∙ ap₂ (λ (z p : ℕ). found_by (maximum (rank_list M N)) (zeros (rank_list M N)) z p) start rank-here
        where
          start : get_or new 0 0 ≡ rank M N 0 0
          start =
              ap (λ (k : ℕ). get_or new k 0) (let z : 0 ≡ 0 * states_of N + 0 = omega (arith, zero-mul (states_of N)) in z)
              ∙ here found.ranks_are 0 0 (omega (arith, chosen.first)) (omega (arith, chosen.second))

      -- what ranking leaves, of a kept pair and of another
      module _ {room listed : ℕ} {flow : List ℕ} where
        pub flow-ranked : {r : Answered} {flow' : List ℕ} → get_or new (s * w + t) 0 ≡ 0 → FlowShown M N room listed s t a r flow flow' → PairRanked M N room listed s t r old new flow flow'
        flow-ranked {r} {flow'} z h =
            record {
              ranks_are = found.ranks_are;
              if_kept = λ _. subst (λ (q : Answer). FlowShown M N room listed s t q r flow flow') answer-after h;
              if_fallen = λ n. absurd (n (sym rank-here ∙ z));
            }

        pub other-ranked : get_or new (s * w + t) 0 ≢ 0 → PairRanked M N room listed s t (Ok a) old new flow flow
        other-ranked z = record { ranks_are = found.ranks_are; if_kept = λ k. absurd (z (rank-here ∙ k)); if_fallen = λ _. (ap Ok answer-after, refl) }

  ready : (flow tree : List ℕ) → Ready M N s t (lent old flow tree)
  ready flow tree = ((chosen.first, chosen.second), chosen.ranks_room)

  -- what there is to show after that
  module _ {room listed : ℕ} {r : Answered} {new flow flow' : List ℕ} (ranked : PairRanked M N room listed s t r old new flow flow') {tree : List ℕ} where
    -- of a kept pair, all is shown
    pub flow-after : Kept M N s t → Compared M N room listed s t (lent old flow tree) (left (answer_of r) (lent new flow' tree))
    flow-after k =
        subst (λ (l : List ℕ). Compared M N room listed s t (lent old flow tree) (left (answer_of r) (lent l flow' tree))) (sym ranked.ranks_are)
        (flow_compared M N room listed s t (lent old flow tree) (ready flow tree) k (ranked.if_kept k))

    -- of another, its tree is shown
    pub tree-after : {a : Answer} {q : Answered} {tree' : List ℕ} → r ≡ Ok a → ¬ Kept M N s t → TreeShown M N s t a q tree tree'
        → Compared M N room listed s t (lent old flow tree) (left (answer_of q) (lent new flow' tree'))
    tree-after {q = q} {tree'} is n h =
        let e = ranked.if_fallen n in
        subst (λ (l : List ℕ). Compared M N room listed s t (lent old flow tree) (left (answer_of q) (lent new l tree'))) (sym e.1)
        (subst (λ (l : List ℕ). Compared M N room listed s t (lent old flow tree) (left (answer_of q) (lent l flow tree'))) (sym ranked.ranks_are)
        (tree_compared M N room listed s t (lent old flow tree) (ready flow tree) n (subst (λ (p : Answer). TreeShown M N s t p q tree tree') (cc (is, e.0)) h)))

  -- only a kept pair is refused
  pub kept-refused : {room listed : ℕ} {e : Refusal} {new flow flow' : List ℕ} → PairRanked M N room listed s t (Err e) old new flow flow' → Kept M N s t
  kept-refused ranked = go (ℕ_discrete (rank M N s t) 0)
    where
      go : Dec (Kept M N s t) → Kept M N s t
      go (yes k) = k
      go (no n) = absurd (cc (ranked.if_fallen n).0)

  -- the answer's rank tells whether the pair is kept
  module _ {room listed : ℕ} {a : Answer} {new flow flow' : List ℕ} (ranked : PairRanked M N room listed s t (Ok a) old new flow flow') where
    rank-told : Kept M N s t → a.rank ≡ 0
    unfolding success
    rank-told k = go (dec_lt (length flow) room)
      where
        go : Dec (length flow < room) → a.rank ≡ 0
        go (yes h) = absurd (cc ((ranked.if_kept k).refused h).0)
        go (no h) = ap (λ (q : Answered). (answer_of q).rank) ((ranked.if_kept k).written (omega arith)).0 ∙ k

    pub is-kept : a.rank ≡ 0 → Kept M N s t
    unfolding success
    is-kept z = go (ℕ_discrete (rank M N s t) 0)
      where
        go : Dec (Kept M N s t) → Kept M N s t
        go (yes k) = k
        go (no n) = sym (ap (λ (q : Answered). (answer_of q).rank) (ranked.if_fallen n).0) ∙ z

    pub is-fallen : a.rank ≢ 0 → ¬ Kept M N s t
    is-fallen z k = z (rank-told k)

    pub lost-after : a.rank ≢ 0 → Lost tables s t
    lost-after z = record { left = chosen.first; right = chosen.second; fell = let n : rank M N s t ≢ 0 = is-fallen z in omega (arith, n) }
