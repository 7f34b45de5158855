-- The three demands, from the contract of `check` alone.
-- Assumes nothing.
use mathlib.Core.Path.{◌≡◌, refl, sym, ap, ◌∙◌, subst}
use mathlib.Core.Bool.{Bool, true, false, cond}
use mathlib.Core.List.{List}
use mathlib.Core.Logic.{◌↔◌}
use Prim.Native.Nat.{ℕ, ◌+◌, ◌*◌, ◌<◌}
use native.Mathlib.Omega.{arith}
use lib.Dec.{T, eqb, eqb→eq}
use lib.ListN.{length, get_or, get_or-append}
use Rattle.simulation.specs.Fit.{Amounts}
use Rattle.simulation.specs.Limits.{wide}
use Rattle.simulation.specs.Table.{Table, states_of, steps}
use Rattle.simulation.specs.Support.{supported}
use Rattle.simulation.specs.Round.{rank, rank_list, maximum, zeros}
use Rattle.simulation.specs.Demands.{Kept, Told, Demands as TheoryDemands}
use Rattle.simulation.proofs.Simulation.RankList.{rank_list-length, rank_list-at}
use Rattle.simulation.proofs.Demands as theory
use Rattle.simulation.proofs.Support.Tables.{supported-states}
use Rattle.simulation.proofs.Complete.Tables.{complete-states, complete_sound}
use Rattle.simulation.proofs.Finite.Tests.{is_true, same_eqb}
use Rattle.layout.specs.Bytes.{Decoded, refused, accepted, decode}
use Rattle.form.proofs.Support.{supported_sound}
use Rattle.layout.proofs.Accepted.{accepted_shaped}
use Rattle.flows.specs.Flow.{flow_bytes, flow_room}
use Rattle.buffer.specs.Buffer.{over}
use Rattle.compare.specs.Outcome.{Buffers, Result, success, outcome}
use Rattle.compare.specs.Steps.{RightIfKept}
use Rattle.simulation.specs.Tree.{tree_bytes}
use Rattle.pod.specs.Check.{contract, checked, RightFor, Checked}
use Rattle.compare.specs.Condition.{Condition, short_ranks, short_flow, short_tree, long_tree, result_of, Ready, outside, flow_fits, tree_fits}
use Rattle.pod.specs.Demands.{Call, first_refused, second_refused, both_accepted, call_result, Demand1, Demand2, Demand3, rank_at}
use Rattle.compare.proofs.Outcome.{met, some_condition, number-met}
use Rattle.counting.proofs.Pairs.{place-below}

-- ---- demand 1

module _ (first second : List ℕ) (s t : ℕ) (b : Buffers) where
  call_met : (x : ℕ → Amounts) {n k : ℕ} (c : Call first second s t b n k) → checked (decode first) (decode second) s t b x ≡ call_result first second s t b x c
  unfolding checked
  call_met x (first_refused e) = ap (λ (d : Decoded). checked d (decode second) s t b x) e
  call_met x (second_refused {M} e f) = ap (λ (d : Decoded). checked d (decode second) s t b x) e ∙ ap (λ (d : Decoded). checked (accepted M) d s t b x) f
  call_met x (both_accepted {M} {N} e f c) = ap (λ (d : Decoded). checked d (decode second) s t b x) e ∙ ap (λ (d : Decoded). checked (accepted M) d s t b x) f ∙ met (supported M) (contract M N) (flow_room M N s) (length (steps N t)) s t b x c

  call-number : (x : ℕ → Amounts) {n k : ℕ} (c : Call first second s t b n k) → (call_result first second s t b x c).answer.number ≡ n
  call-number x (first_refused e) = refl
  call-number x (second_refused e f) = refl
  call-number x (both_accepted {M} {N} e f c) = number-met (supported M) (contract M N) (flow_room M N s) (length (steps N t)) s t b x c

  call-table : (x : ℕ → Amounts) {n k : ℕ} (c : Call first second s t b n k) → (call_result first second s t b x c).answer.table ≡ k
  unfolding success
  call-table x (first_refused e) = refl
  call-table x (second_refused e f) = refl
  call-table x (both_accepted e f (outside h)) = refl
  call-table x (both_accepted e f (short_ranks i h)) = refl
  call-table x (both_accepted e f (short_flow r k h)) = refl
  call-table x (both_accepted e f (flow_fits r k h)) = refl
  call-table x (both_accepted e f (long_tree r k h)) = refl
  call-table x (both_accepted e f (short_tree r k h g)) = refl
  call-table x (both_accepted e f (tree_fits r k h g)) = refl

  some-call : (x : ℕ → Amounts) → (n : ℕ) × (k : ℕ) × Call first second s t b n k
  some-call x = go (decode first) (decode second) refl refl
    where
      go : (d e : Decoded) → decode first ≡ d → decode second ≡ e → (n : ℕ) × (k : ℕ) × Call first second s t b n k
      go (refused k) e p q = (k, 1, first_refused p)
      go (accepted M) (refused k) p q = (k, 2, second_refused p q)
      go (accepted M) (accepted N) p q = let c = some_condition (supported M) (contract M N) (flow_room M N s) (length (steps N t)) s t b x in (c.0, 0, both_accepted p q c.1)

  pub demand_1 : (r : Result) → Checked first second s t b r → Demand1 first second s t b r
  demand_1 r h = record { amounts = h.amounts; exactly = exactly; gives = λ c. h.result ∙ call_met h.amounts c }
    where
      x : ℕ → Amounts
      x = h.amounts

      numbers : {n k : ℕ} → Call first second s t b n k → (r.answer.number ≡ n) × (r.answer.table ≡ k)
      numbers c = let e = h.result ∙ call_met x c in (ap (λ (r : Result). r.answer.number) e ∙ call-number x c, ap (λ (r : Result). r.answer.table) e ∙ call-table x c)

      exactly : (n k : ℕ) → ((r.answer.number ≡ n) × (r.answer.table ≡ k)) ↔ Call first second s t b n k
      exactly n k = (
        λ e. let c = some-call x in let g = numbers c.2 in
            subst (λ (m : ℕ). Call first second s t b m k) (sym g.0 ∙ e.0) (subst (λ (l : ℕ). Call first second s t b c.0 l) (sym g.1 ∙ e.1) c.2),
        numbers,
      )

-- ---- demands 2 and 3

module _ (M N : Table) (room listed s t : ℕ) (b : Buffers) (x : ℕ → Amounts) where
  -- with room for the ranks they are filled in, whatever the number
  pub ranks-filled : Ready M N s t b → {n : ℕ} (c : Condition M N room s t b n) → (result_of M N room s t b listed x c).buffers.ranks ≡ over (rank_list M N) b.ranks
  ranks-filled h (outside f) = absurd (f h.0)
  ranks-filled h (short_ranks i l) = absurd (omega (arith, h.1))
  ranks-filled h (short_flow r k l) = refl
  ranks-filled h (flow_fits r k l) = refl
  ranks-filled h (long_tree r k l) = refl
  ranks-filled h (short_tree r k l g) = refl
  ranks-filled h (tree_fits r k l g) = refl

  -- what an accepted call answers
  pub record Accepted (r : Result) : Type 0 where
    pub answer : (n : ℕ) × (r.answer ≡ success M N s t n)
    pub flow : Kept M N s t → (r.answer.written ≡ length (flow_bytes M N listed s t x)) × (r.buffers.flow ≡ over (flow_bytes M N listed s t x) b.flow)
    pub tree : ¬ Kept M N s t → (r.answer.written ≡ length (tree_bytes M N s t)) × (r.buffers.tree ≡ over (tree_bytes M N s t) b.tree)

  accepted_by : {n : ℕ} (c : Condition M N room s t b n) → n ≡ 0 → Accepted (result_of M N room s t b listed x c)
  unfolding success
  accepted_by (outside f) e = absurd (omega arith)
  accepted_by (short_ranks i l) e = absurd (omega arith)
  accepted_by (short_flow r k l) e = absurd (omega arith)
  accepted_by (long_tree r k l) e = absurd (omega arith)
  accepted_by (short_tree r k l g) e = absurd (omega arith)
  accepted_by (flow_fits r k l) e = record { answer = (length (flow_bytes M N listed s t x), refl); flow = λ _. (refl, refl); tree = λ f. absurd (f k) }
  accepted_by (tree_fits r k l g) e = record { answer = (length (tree_bytes M N s t), refl); flow = λ k'. absurd (k k'); tree = λ _. (refl, refl) }

  accepted-call : (r : Result) → r ≡ outcome M N room listed s t b x → r.answer.number ≡ 0 → Accepted r
  accepted-call r e z =
      let c = some_condition M N room listed s t b x in
      let g : r ≡ result_of M N room s t b listed x c.1 = e ∙ met M N room listed s t b x c.1 in
      subst Accepted (sym g) (accepted_by c.1 (sym (number-met M N room listed s t b x c.1) ∙ sym (ap (λ (r : Result). r.answer.number) g) ∙ z))

  success-rounds : (n : ℕ) → (success M N s t n).rounds ≡ maximum (rank_list M N)
  unfolding success
  success-rounds n = refl

  success-kept : (n : ℕ) → (success M N s t n).kept ≡ zeros (rank_list M N)
  unfolding success
  success-kept n = refl

  success-rank : (n : ℕ) → (success M N s t n).rank ≡ rank M N s t
  unfolding success
  success-rank n = refl

  success-verdict : (n : ℕ) → ((success M N s t n).verdict ≡ 1) ↔ Kept M N 0 0
  unfolding success
  success-verdict n = (λ e. yes-only (eqb (rank M N 0 0) 0) refl e, λ k. ap (λ (c : Bool). cond c 1 0) (is_true (eqb (rank M N 0 0) 0) (same_eqb k)))
    where
      yes-only : (c : Bool) → eqb (rank M N 0 0) 0 ≡ c → ◌≡◌ {A = ℕ} (cond c 1 0) 1 → Kept M N 0 0
      yes-only true e _ = eqb→eq (rank M N 0 0) 0 (subst T (sym e) tt)
      yes-only false e f = absurd (omega arith)

pub contract-states : (M N : Table) → states_of (contract M N) ≡ states_of N
contract-states M N = complete-states (supported M).codes (supported N) ∙ supported-states N

module _ (first second : List ℕ) (s t : ℕ) (b : Buffers) (r : Result) (h : Checked first second s t b r)
    (M N : Table) (e : decode first ≡ accepted M) (f : decode second ≡ accepted N) where
  -- what they are judged as, the room asked, and how many transitions are listed
  abbrev M' : Table
  M' = supported M

  abbrev N' : Table
  N' = contract M N

  abbrev room : ℕ
  room = flow_room M N s

  abbrev listed : ℕ
  listed = length (steps N t)

  pub call-outcome : r ≡ outcome (supported M) (contract M N) (flow_room M N s) (length (steps N t)) s t b h.amounts
  unfolding checked
  call-outcome = h.result ∙ ap (λ (d : Decoded). checked d (decode second) s t b h.amounts) e ∙ ap (λ (d : Decoded). checked (accepted M) d s t b h.amounts) f

  call-right : RightIfKept M' N' s t h.amounts
  unfolding RightFor
  call-right = subst (λ (d : Decoded). RightFor (accepted M) d s t h.amounts) f (subst (λ (d : Decoded). RightFor d (decode second) s t h.amounts) e h.right)

  module _ (ready : Ready M' N' s t b) where
    ranks_left : (u v : ℕ) → u < states_of M' → v < states_of N' → rank_at M' N' s t b r u v ≡ rank M' N' u v
    ranks_left u v a c =
        let k = some_condition M' N' room listed s t b h.amounts in
        let g : r.buffers.ranks ≡ over (rank_list M' N') b.ranks =
        ap (λ (r : Result). r.buffers.ranks) (call-outcome ∙ met M' N' room listed s t b h.amounts k.1) ∙ ranks-filled M' N' room listed s t b h.amounts ready k.1 in
        ap (λ (l : List ℕ). get_or l (u * states_of N' + v) 0) g
        ∙ get_or-append (rank_list M' N') _ 0 (u * states_of N' + v) (omega (arith, rank_list-length M' N', place-below u v (states_of M') (states_of N') a c))
        ∙ rank_list-at M' N' u v a c

    -- by the states that the tables list
    pub ranks_judged : (u v : ℕ) → u < states_of M → v < states_of N → rank_at M N s t b r u v ≡ rank (supported M) (contract M N) u v
    ranks_judged u v a c =
        let same = contract-states M N in
        ap (λ (n : ℕ). get_or r.buffers.ranks (u * n + v) 0) (sym same) ∙ ranks_left u v (omega (arith, supported-states M)) (omega arith)

    demands : TheoryDemands M' N'
    demands =
        theory.demands M' N' (supported_sound M (accepted_shaped wide first M e))
        (complete_sound (supported M).codes (supported N) (supported_sound N (accepted_shaped wide second N f)))

    accepted-here : r.answer.number ≡ 0 → Accepted M' N' room listed s t b h.amounts r
    accepted-here = accepted-call M' N' room listed s t b h.amounts r call-outcome

    pub demand_2 : Demand2 (supported M) (contract M N) s t b r (length (steps N t))
    demand_2 =
        record {
          weighted = demands.weighted;
          whole = demands.whole;
          ranks = ranks_left;
          counted = λ z. let a = (accepted-here z).answer in (ap (λ a. a.kept) a.1 ∙ success-kept M' N' room listed s t b h.amounts a.0, ap (λ a. a.rounds) a.1 ∙ success-rounds M' N' room listed s t b h.amounts a.0);
          verdict = λ z. let a = (accepted-here z).answer in let w = success-verdict M' N' room listed s t b h.amounts a.0 in (λ v. w.0 (sym (ap (λ a. a.verdict) a.1) ∙ v), λ k. ap (λ a. a.verdict) a.1 ∙ w.1 k);
          flows = λ z k. let w = (accepted-here z).flow k in (h.amounts, call-right ready.0.0 ready.0.1 k, w.0, w.1);
        }

    pub demand_3 : Demand3 (supported M) (contract M N) s t b r
    demand_3 =
        record {
          told = λ u v a c. subst (λ (n : ℕ). Told M' N' u v n) (sym (ranks_left u v a c)) (demands.told u v a c);
          shown = λ z k. let a = accepted-here z in let w = a.tree k in (ap (λ a. a.rank) a.answer.1 ∙ success-rank M' N' room listed s t b h.amounts a.answer.0, w.0, w.1);
        }
