-- Chains of contracts, from the contract of `check` alone: two yeses give a yes.
-- Assumes nothing.
use mathlib.Core.Path.{◌≡◌, refl, sym, ap, ◌∙◌, subst, subst₂}
use mathlib.Core.List.{List}
use mathlib.Core.Logic.{◌⊎◌, inl, inr}
use Prim.Native.Nat.{ℕ, ◌<◌}
use native.Mathlib.Omega.{arith}
use native.Mathlib.Decide.{dec_lt}
use lib.ListN.{length}
use Rattle.simulation.specs.Fit.{Amounts}
use Rattle.simulation.specs.Limits.{wide}
use Rattle.simulation.specs.Table.{Table, states_of, steps}
use Rattle.simulation.specs.Support.{supported}
use Rattle.simulation.specs.Round.{rank}
use Rattle.simulation.specs.Chain.{UpTo, Chained, Mediates, SameCodes}
use Rattle.simulation.specs.Demands.{Sound}
use Rattle.simulation.proofs.Chains as theory
use Rattle.simulation.proofs.Complete.Tables.{OwnCodes}
use Rattle.simulation.proofs.Support.Tables.{supported-states}
use Rattle.layout.specs.Bytes.{accepted, decode}
use Rattle.layout.proofs.Accepted.{accepted_shaped}
use Rattle.form.proofs.Sound.{shaped_codes}
use Rattle.form.proofs.Support.{supported_shaped, supported_sound}
use Rattle.flows.specs.Flow.{flow_room}
use Rattle.compare.specs.Outcome.{Buffers, Result}
use Rattle.compare.specs.Condition.{Condition, result_of, Ready, outside, short_ranks, short_flow, flow_fits, long_tree, short_tree, tree_fits}
use Rattle.compare.proofs.Outcome.{met, some_condition, number-met}
use Rattle.pod.specs.Check.{contract}
use Rattle.pod.specs.Demands.{Demand2}
use Rattle.pod.specs.Chain.{Filled, Ranked, rank_left, Yes}
use Rattle.pod.proofs.Demands.{call-outcome, contract-states, ranks_judged, demand_2}

module _ (M N : Table) (room s t : ℕ) (b : Buffers) where
  -- a number that says that the ranks are filled in
  filled-ready : {n : ℕ} → Condition M N room s t b n → Filled n → Ready M N s t b
  filled-ready (outside h) (inl e) = absurd (omega arith)
  filled-ready (outside h) (inr f) = absurd (omega (arith, f.0))
  filled-ready (short_ranks i h) (inl e) = absurd (omega arith)
  filled-ready (short_ranks i h) (inr f) = absurd (omega (arith, f.0))
  filled-ready (short_flow r k h) f = r
  filled-ready (flow_fits r k h) f = r
  filled-ready (long_tree r d h) f = r
  filled-ready (short_tree r d h g) f = r
  filled-ready (tree_fits r d h g) f = r

  -- only success comes with a yes
  yes-number : (listed : ℕ) (x : ℕ → Amounts) {n : ℕ} (c : Condition M N room s t b n) → (result_of M N room s t b listed x c).answer.verdict ≡ 1 → n ≡ 0
  yes-number listed x (outside h) e = absurd (omega (arith, e))
  yes-number listed x (short_ranks i h) e = absurd (omega (arith, e))
  yes-number listed x (short_flow r k h) e = absurd (omega (arith, e))
  yes-number listed x (flow_fits r k h) e = refl
  yes-number listed x (long_tree r d h) e = absurd (omega (arith, e))
  yes-number listed x (short_tree r d h g) e = absurd (omega (arith, e))
  yes-number listed x (tree_fits r d h g) e = refl

module _ {M N : Table} (x : Ranked M N) where
  abbrev room : ℕ
  room = flow_room M N x.s

  abbrev listed : ℕ
  listed = length (steps N x.t)

  abbrev amounts : ℕ → Amounts
  amounts = x.call.amounts

  -- the condition under which it gave its number
  condition : (n : ℕ) × Condition (supported M) (contract M N) room x.s x.t x.buffers n
  condition = some_condition (supported M) (contract M N) room listed x.s x.t x.buffers amounts

  result-is : x.result ≡ result_of (supported M) (contract M N) room x.s x.t x.buffers listed amounts condition.1
  result-is =
      call-outcome x.first x.second x.s x.t x.buffers x.result x.call M N x.first_holds x.second_holds
      ∙ met (supported M) (contract M N) room listed x.s x.t x.buffers amounts condition.1

  number_is : x.result.answer.number ≡ condition.0
  number_is = ap (λ (r : Result). r.answer.number) result-is ∙ number-met (supported M) (contract M N) room listed x.s x.t x.buffers amounts condition.1

  ready : Ready (supported M) (contract M N) x.s x.t x.buffers
  ready = filled-ready (supported M) (contract M N) room x.s x.t x.buffers condition.1 (subst Filled number_is x.filled)

  demand : Demand2 (supported M) (contract M N) x.s x.t x.buffers x.result listed
  demand = demand_2 x.first x.second x.s x.t x.buffers x.result x.call M N x.first_holds x.second_holds ready

  left_is : (u v : ℕ) → u < states_of M → v < states_of N → rank_left x u v ≡ rank (supported M) (contract M N) u v
  left_is = ranks_judged x.first x.second x.s x.t x.buffers x.result x.call M N x.first_holds x.second_holds ready

  -- both tables have a start
  start_first : 0 < states_of M
  start_first = omega (arith, ready.0.0, supported-states M)

  start-second : 0 < states_of N
  start-second = omega (arith, ready.0.1, contract-states M N)

  left-start : rank_left x 0 0 ≡ rank (supported M) (contract M N) 0 0
  left-start = left_is 0 0 start_first start-second

  -- a yes is the rank 0 of the two starts
  yes-left : Yes x → rank_left x 0 0 ≡ 0
  yes-left y =
      let given = sym (ap (λ (r : Result). r.answer.verdict) result-is) ∙ y in
      let zero = yes-number (supported M) (contract M N) room x.s x.t x.buffers listed amounts condition.1 given in
      left-start ∙ (demand.verdict (number_is ∙ zero)).0 y

  left-yes : rank_left x 0 0 ≡ 0 → x.result.answer.number ≡ 0 → Yes x
  left-yes e z = (demand.verdict z).1 (sym left-start ∙ e)

-- what the theory needs of an accepted table
module _ (bytes : List ℕ) (M : Table) (e : decode bytes ≡ accepted M) where
  sound_of : Sound (supported M)
  sound_of = supported_sound M (accepted_shaped wide bytes M e)

  codes_of : OwnCodes (supported M)
  codes_of = shaped_codes (supported M) (supported_shaped M (accepted_shaped wide bytes M e))

judged_mediates : (A B C : Table) → Mediates A B C → Mediates (supported A) (supported B) (supported C)
unfolding supported
judged_mediates A B C h = h

module _ {A B C : Table} (ab : Ranked A B) (bc : Ranked B C) (ac : Ranked A C) (mediates : Mediates A B C) where
  -- if the rank left for (a, c) is r above 0, then for every state b of the middle table that left for (a, b) or for (b, c) is from 1 to r
  pub chain : (a b c : ℕ) → a < states_of A → b < states_of B → c < states_of C → Chained (rank_left ac a c) (rank_left ab a b) (rank_left bc b c)
  chain a b c x y z =
      subst (λ (r : ℕ). Chained r (rank_left ab a b) (rank_left bc b c)) (sym (left_is ac a c x z))
      (subst₂ (Chained (rank (supported A) (contract A C) a c)) (sym (left_is ab a b x y)) (sym (left_is bc b c y z))
      (theory.chain (supported A) (supported B) (supported C)
      (sound_of ab.first A ab.first_holds) (sound_of bc.first B bc.first_holds)
      (codes_of ab.first A ab.first_holds) (codes_of bc.first B bc.first_holds) (codes_of bc.second C bc.second_holds)
      (judged_mediates A B C mediates) a b c (omega (arith, supported-states A)) (omega (arith, supported-states B)) (omega (arith, supported-states C))))

  -- so two pairs that are kept give a third
  pub suffices : (a b c : ℕ) → a < states_of A → b < states_of B → c < states_of C → rank_left ab a b ≡ 0 → rank_left bc b c ≡ 0 → rank_left ac a c ≡ 0
  suffices a b c x y z e f = go (dec_lt 0 (rank_left ac a c))
    where
      none : UpTo (rank_left ac a c) (rank_left ab a b) ⊎ UpTo (rank_left ac a c) (rank_left bc b c) → ⊥
      none (inl h) = omega (arith, h.0)
      none (inr h) = omega (arith, h.0)

      go : Dec (0 < rank_left ac a c) → rank_left ac a c ≡ 0
      go (yes p) = absurd (none (chain a b c x y z p))
      go (no n) = omega arith

  -- and two yeses a yes; where 21 to 23 keep the third call from saying so, the rank that it left does
  pub two_yeses : Yes ab → Yes bc → (rank_left ac 0 0 ≡ 0) × (ac.result.answer.number ≡ 0 → Yes ac)
  two_yeses y z =
      let kept = suffices 0 0 0 (start_first ac) (start_first bc) (start-second ac) (yes-left ab y) (yes-left bc z) in
      (kept, left-yes ac kept)

-- as 02 has it: three tables that list the same codes
pub same-codes-chain : (A B C : Table) → SameCodes A B → SameCodes B C → (ab : Ranked A B) (bc : Ranked B C) (ac : Ranked A C)
    → (a b c : ℕ) → a < states_of A → b < states_of B → c < states_of C → Chained (rank_left ac a c) (rank_left ab a b) (rank_left bc b c)
same-codes-chain A B C same _ ab bc ac = chain ab bc ac (theory.same_mediates A B C same)
