-- A flow that the search can't improve and the rows that it reached make the kernel's answer.
-- Assumes nothing.
use mathlib.Core.Path.{◌≡◌, refl, sym, ap, ◌∙◌, subst}
use mathlib.Core.Bool.{Bool, true, false}
use mathlib.Core.List.{List}
use mathlib.Core.Logic.{⊎_elim}
use Prim.Native.Nat.{ℕ, zero, suc, ◌*◌, ◌^◌, ◌≤◌, ◌<◌}
use native.Mathlib.Nat.{mul_comm}
use native.Mathlib.Decide.{ℕ_discrete}
use native.Mathlib.Omega.{arith}
use lib.Dec.{T, eqb, eqb→eq, T_not}
use lib.ListN.{length, get_or}
use borrow.Author.Tests.{eq-eqb}
use Rattle.simulation.specs.Limits.{most_states}
use Rattle.simulation.specs.Fit.{weight, total, fits?}
use Rattle.simulation.proofs.Finite.Tests.{same_test, is_true, true_T, false_T}
use Rattle.simulation.proofs.Finite.Sums.{sum_mono, sum_tight}
use Rattle.simulation.proofs.Flow.Partial.{Reach, row, tight_from}
use Rattle.simulation.proofs.Fit.Gain.{supply, demand, all-supply}
use Rattle.simulation.proofs.Fit.Hall.{PartialFlow, Certified, sent-all, full_shares}
use Rattle.simulation.proofs.Fit.Cut.{Reached, largest_gain-sent, fits-sent, sent-fits, cut_certified}
use Rattle.word.specs.Mask.{Test, member}
use Rattle.word.proofs.Mask.{lowest_of, member-none, member-high, below_power}
use Rattle.relation.specs.Related.{holds}
use Rattle.matrix.specs.Matrix.{cell, Outside, row_sum, column_sum}
use Rattle.transport.specs.Answer.{MaximumFlow}
use Rattle.matrix.specs.Masks.{Used}
use Rattle.matrix.specs.Flow.{Flow}
use Rattle.search.specs.Search.{Forest, Ended}
use Rattle.greedy.specs.Start.{Balanced}
use Rattle.matrix.proofs.MaskedLaws.{true_or_false, neither, sender-column, sender-row}
use Rattle.search.proofs.SearchLaws.{forest-all}

pub eq_T : {m n : ℕ} → m ≡ n → T (eqb m n)
eq_T {m} {n} e = subst T (sym (eq-eqb m n e)) tt

-- no row is reached where each sends all it has
none-reached : {p q : ℕ} {R : ℕ → ℕ → Bool} {a : ℕ → ℕ} {x : ℕ → ℕ → ℕ} → ((i : ℕ) → i < p → a i ≤ row q x i) → {i : ℕ} → Reach p q R a x i → ⊥
none-reached h (Reach.short i l s) = omega (arith, h i l)
none-reached h (Reach.back i j i' r l m t l' d) = none-reached h r

-- S is the set of the members of r, r a mask of rows
module _ (ws vs rel x : List ℕ) (r : ℕ) (F : PartialFlow (holds rel) ws vs (cell x)) (Z : Certified (holds rel) ws vs (cell x) (member r))
    (K : Reached (holds rel) ws vs (cell x) (member r)) (l : r < 2 ^ length ws) where
  all-sent : r ≡ 0 → total ws * total vs ≤ sent-all ws vs (cell x)
  all-sent z = omega (
    arith,
    all-supply ws vs,
    sum_mono (length ws) (supply ws vs) (λ i. row (length vs) (cell x) i) (λ i h. Z.rows i h (false_T (ap (λ (n : ℕ). member n i) z ∙ member-none i))),
  )

  none_left : total ws * total vs ≤ sent-all ws vs (cell x) → r ≡ 0
  none_left s = elim (ℕ_discrete r 0) [
    | yes z ↦ z
    | no n ↦ let t = lowest_of (length ws) r l (omega arith) in
        absurd (none-reached (λ i h. omega (arith, sum_tight (length ws) (λ i. row (length vs) (cell x) i) (supply ws vs) F.rows (omega (arith, all-supply ws vs)) i h)) (K _ t.0 (true_T t.1.here)))
  ]

  fits-empty : fits? (holds rel) ws vs ≡ eqb r 0
  fits-empty = same_test _ _
      (λ t. eq_T (none_left (omega (arith, fits-sent (holds rel) ws vs (cell x) (member r) F Z t))))
      (λ t. sent-fits (holds rel) ws vs (cell x) (member r) F Z (all-sent (eqb→eq r 0 t)))

  pub answered : {x₀ : List ℕ} → Outside (length ws) (length vs) x₀ x → length x ≡ length x₀ → MaximumFlow ws vs rel x₀ x r
  answered o e = record {
    support = F.support;
    sent = λ i h. omega (arith, F.rows i h, mul_comm (weight ws i) (total vs));
    taken = λ j h. omega (arith, F.columns j h, mul_comm (weight vs j) (total ws));
    most = omega (arith, largest_gain-sent (holds rel) ws vs (cell x) (member r) F Z);
    fit = fits-empty;
    shares = λ z. full_shares (holds rel) ws vs (cell x) F (all-sent z);
    smallest = cut_certified (holds rel) ws vs (cell x) (member r) F Z K;
    no_others = λ i h. member-high (length ws) r i l h;
    outside = o;
    same_length = e;
  }

-- a row of the forest is reached by a residual path
module _ {p q : ℕ} {rel x senders : List ℕ} {from via : ℕ → ℕ} {short : ℕ} {S : Test} {rank : ℕ → ℕ} {a : ℕ → ℕ} (t : Forest rel senders short from via S rank) (u : Used p q x senders)
    (h : (i : ℕ) → member short i ≡ true → i < p) (s : (i : ℕ) → member short i ≡ true → row q (cell x) i < a i) where
  pub forest-row : (k i : ℕ) → S i ≡ true → rank i ≡ k → i < p
  forest-row = forest-all (λ (k : ℕ). k < p) t h (sender-row u)

  pub forest_reach : (k i : ℕ) → S i ≡ true → rank i ≡ k → Reach p q (holds rel) a (cell x) i
  forest_reach zero i m e = Reach.short i (forest-row zero i m e) (s i (t.root i m e))
  forest_reach (suc k) i m e =
      let r = t.before i k m e in
      let j = sender-column u i (via i) (t.sender i k m e) in
      Reach.back (from i) (via i) i (forest_reach k (from i) r (t.lower i k m e)) (forest-row k (from i) r (t.lower i k m e)) j (true_T (t.related i k m e))
      (forest-row (suc k) i m e) ((u.column (via i) j).some i (t.sender i k m e))

-- the search ended without a path
module _ {ws vs rel x a b senders : List ℕ} (r : ℕ) (f : Flow (length ws) (length vs) rel x a b senders) (d : Ended (length ws) (length vs) rel a b senders (member r))
    (e : Balanced ws vs x a b) where
  flow : PartialFlow (holds rel) ws vs (cell x)
  unfolding row_sum column_sum
  flow = record {
    support = λ i j h k n. true_T (f.supported.support i j h k n);
    rows = λ i h. omega (arith, e.sent i h, mul_comm (weight ws i) (total vs));
    columns = λ j h. omega (arith, e.taken j h, mul_comm (weight vs j) (total ws));
  }

  short_row : (i : ℕ) → member d.short i ≡ true → row (length vs) (cell x) i < supply ws vs i
  unfolding row_sum
  short_row i m = omega (arith, d.rows.some i m, e.sent i (d.rows.below i m), mul_comm (weight ws i) (total vs))

  certified : Certified (holds rel) ws vs (cell x) (member r)
  unfolding row_sum column_sum
  certified = tight_from (length ws) (length vs) (holds rel) (supply ws vs) (demand ws vs) (cell x) (member r)
      (λ i h n. elim (ℕ_discrete (get_or a i 0) 0) [
        | yes z ↦ omega (arith, e.sent i h, mul_comm (weight ws i) (total vs))
        | no o ↦ absurd (T_not (member r i) n (true_T (d.stuck.starts i (d.rows.there i h o))))
      ])
      (λ i j h k s m. elim (ℕ_discrete (get_or b j 0) 0) [
        | yes z ↦ omega (arith, e.taken j k, mul_comm (weight vs j) (total ws))
        | no o ↦ absurd (neither (d.columns.there j k o) (d.stuck.shut i j (is_true (member r i) s) (is_true (holds rel i j) m)))
      ])
      (λ i j i' h k h' s m n. true_T (d.stuck.closed i i' j (is_true (member r i) s) (is_true (holds rel i j) m) ((f.used.column j k).there i' h' n)))

  reached : Reached (holds rel) ws vs (cell x) (member r)
  reached i h s = forest_reach d.stuck.forest f.used d.rows.below short_row (d.stuck.rank i) i (is_true (member r i) s) refl

  within : (i : ℕ) → length ws ≤ i → member r i ≡ false
  within i h = ⊎_elim (λ m. absurd (let k : i < length ws = forest-row {a = supply ws vs} d.stuck.forest f.used d.rows.below short_row (d.stuck.rank i) i m refl in omega arith)) (λ m. m) (true_or_false (member r i))

  pub finished : {x₀ : List ℕ} → r < 2 ^ most_states → Outside (length ws) (length vs) x₀ x → length x ≡ length x₀ → MaximumFlow ws vs rel x₀ x r
  finished l = answered ws vs rel x r flow certified reached (below_power most_states (length ws) r l within)
