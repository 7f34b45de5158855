-- A table with its entries of weight 0 dropped: it can be written down and is accepted, and with it ranks, trees and right flows are the same, on either side.
-- Assumes nothing.
use mathlib.Core.Path.{◌≡◌, refl, sym, ap, ap₂, ◌∙◌, subst, subst₂}
use mathlib.Core.List.{List}
use mathlib.Core.Logic.{◌↔◌}
use Prim.Native.Nat.{ℕ, ◌<◌}
use lib.ListN.{length}
use Rattle.simulation.specs.Fit.{Amounts}
use Rattle.simulation.specs.Limits.{wide}
use Rattle.simulation.specs.Table.{Table, states_of, steps}
use Rattle.simulation.specs.Support.{supported}
use Rattle.simulation.specs.Complete.{complete, contract_for}
use Rattle.simulation.specs.Round.{rank}
use Rattle.simulation.specs.Demands.{Kept}
use Rattle.simulation.proofs.Support.Tables.{supported-codes, supported_twice}
use Rattle.simulation.proofs.Support.Ranks.{rank-supported}
use Rattle.simulation.proofs.Complete.Tables.{supported-complete}
use Rattle.form.proofs.Support.{supported-valid}
use Rattle.layout.specs.Bytes.{Octets, Decoded, accepted, decode}
use Rattle.layout.specs.Encode.{encode}
use Rattle.layout.proofs.Accepted.{accepted-valid}
use Rattle.layout.proofs.RoundTrip.{decode-encode}
use Rattle.flows.specs.Flow.{flow_room}
use Rattle.compare.specs.Outcome.{Buffers, Result, outcome}
use Rattle.compare.specs.Condition.{Condition, result_of, Ready, outside, short_ranks, short_flow, flow_fits, long_tree, short_tree, tree_fits}
use Rattle.compare.specs.Steps.{RightIfKept}
use Rattle.compare.proofs.Outcome.{met, some_condition}
use Rattle.pod.specs.Check.{contract, RightFor, Checked}
use Rattle.pod.specs.Demands.{rank_at}
use Rattle.pod.specs.Dropped.{Alike}
use Rattle.pod.proofs.Demands.{call-outcome, ranks-filled, ranks_judged}

-- the bytes of the table without them hold it
pub dropped_decodes : (bytes : List ℕ) → Octets bytes → (M : Table) → decode bytes ≡ accepted M → decode (encode (supported M)) ≡ accepted (supported M)
dropped_decodes bytes octets M e = decode-encode wide (supported M) (supported-valid wide M (accepted-valid wide bytes octets M e))

-- a kept pair leaves the tree buffer as lent
tree_lent : (M N : Table) (room listed s t : ℕ) (b : Buffers) (x : ℕ → Amounts) → Kept M N s t → {n : ℕ} (c : Condition M N room s t b n) → (result_of M N room s t b listed x c).buffers.tree ≡ b.tree
tree_lent M N room listed s t b x k (outside h) = refl
tree_lent M N room listed s t b x k (short_ranks i h) = refl
tree_lent M N room listed s t b x k (short_flow r _ h) = refl
tree_lent M N room listed s t b x k (flow_fits r _ h) = refl
tree_lent M N room listed s t b x k (long_tree r d h) = absurd (d k)
tree_lent M N room listed s t b x k (short_tree r d h g) = absurd (d k)
tree_lent M N room listed s t b x k (tree_fits r d h g) = absurd (d k)

-- two calls that judge the same, with a room, a count of listed transitions and amounts of their own
module _ (M N : Table) (s t : ℕ) (b : Buffers) (room listed room' listed' : ℕ) (x x' : ℕ → Amounts) where
  abbrev one : Result
  one = outcome M N room listed s t b x

  abbrev two : Result
  two = outcome M N room' listed' s t b x'

  -- what a condition gives that does not speak of the room
  shared : {n n' : ℕ} (c : Condition M N room s t b n) (d : Condition M N room' s t b n') → result_of M N room s t b listed x c ≡ result_of M N room' s t b listed' x' d → two ≡ one
  shared c d e = met M N room' listed' s t b x' d ∙ sym e ∙ sym (met M N room listed s t b x c)

  -- of a kept pair
  module _ (ready : Ready M N s t b) (k : Kept M N s t) where
    ranks-kept : two.buffers.ranks ≡ one.buffers.ranks
    ranks-kept =
        let c = (some_condition M N room listed s t b x).1 in
        let d = (some_condition M N room' listed' s t b x').1 in
        ap (λ (r : Result). r.buffers.ranks) (met M N room' listed' s t b x' d) ∙ ranks-filled M N room' listed' s t b x' ready d
        ∙ sym (ap (λ (r : Result). r.buffers.ranks) (met M N room listed s t b x c) ∙ ranks-filled M N room listed s t b x ready c)

    tree-kept : two.buffers.tree ≡ one.buffers.tree
    tree-kept =
        let c = (some_condition M N room listed s t b x).1 in
        let d = (some_condition M N room' listed' s t b x').1 in
        ap (λ (r : Result). r.buffers.tree) (met M N room' listed' s t b x' d) ∙ tree_lent M N room' listed' s t b x' k d
        ∙ sym (ap (λ (r : Result). r.buffers.tree) (met M N room listed s t b x c) ∙ tree_lent M N room listed s t b x k c)

    kept-alike : Alike (Kept M N s t) one two
    kept-alike = record { ranks = ranks-kept; tree = tree-kept; whole = λ d. absurd (d k) }

  equal_alike : two ≡ one → Alike (Kept M N s t) one two
  equal_alike e = record { ranks = ap (λ (r : Result). r.buffers.ranks) e; tree = ap (λ (r : Result). r.buffers.tree) e; whole = λ _. e }

  rooms_alike : Alike (Kept M N s t) one two
  rooms_alike = go (some_condition M N room listed s t b x).1
    where
      go : {n : ℕ} → Condition M N room s t b n → Alike (Kept M N s t) one two
      go (outside h) = equal_alike (shared (outside h) (outside h) refl)
      go (short_ranks i h) = equal_alike (shared (short_ranks i h) (short_ranks i h) refl)
      go (short_flow r k h) = kept-alike r k
      go (flow_fits r k h) = kept-alike r k
      go (long_tree r d h) = equal_alike (shared (long_tree r d h) (long_tree r d h) refl)
      go (short_tree r d h g) = equal_alike (shared (short_tree r d h g) (short_tree r d h g) refl)
      go (tree_fits r d h g) = equal_alike (shared (tree_fits r d h g) (tree_fits r d h g) refl)

-- two pairs of tables that are the same without their entries of weight 0
module _ (s t : ℕ) (first second first' second' : List ℕ) (M N M' N' : Table)
    (e : decode first ≡ accepted M) (f : decode second ≡ accepted N) (e' : decode first' ≡ accepted M') (f' : decode second' ≡ accepted N')
    (p : supported M' ≡ supported M) (q : supported N' ≡ supported N) where
  -- calls for one pair, with the same buffers
  alike : (b : Buffers) (r r' : Result) → Checked first second s t b r → Checked first' second' s t b r' → Alike (Kept (supported M) (contract M N) s t) r r'
  alike b r r' h h' =
      let room = flow_room M N s in
      let room' = flow_room M' N' s in
      let listed = length (steps N t) in
      let listed' = length (steps N' t) in
      let mine = call-outcome first second s t b r h M N e f in
      let other = call-outcome first' second' s t b r' h' M' N' e' f' ∙ ap₂ (λ (A B : Table). outcome A (contract_for A B) room' listed' s t b h'.amounts) p q in
      subst₂ (Alike (Kept (supported M) (contract M N) s t)) (sym mine) (sym other) (rooms_alike (supported M) (contract M N) s t b room listed room' listed' h.amounts h'.amounts)

  -- the amounts of a flow
  right-alike : (x : ℕ → Amounts) → RightFor (decode first) (decode second) s t x → RightFor (decode first') (decode second') s t x
  unfolding RightFor
  right-alike x h =
      let judged : RightIfKept (supported M) (contract M N) s t x = subst (λ (d : Decoded). RightFor (accepted M) d s t x) f (subst (λ (d : Decoded). RightFor d (decode second) s t x) e h) in
      subst (λ (d : Decoded). RightFor d (decode second') s t x) (sym e')
      (subst (λ (d : Decoded). RightFor (accepted M') d s t x) (sym f') (subst₂ (λ (A B : Table). RightIfKept A (contract_for A B) s t x) (sym p) (sym q) judged))

module _ (first second dropped : List ℕ) (s t : ℕ) (M N : Table) (e : decode first ≡ accepted M) (f : decode second ≡ accepted N) where
  -- dropped from the first table
  module _ (d : decode dropped ≡ accepted (supported M)) where
    pub dropped_first : (b : Buffers) (r r' : Result) → Checked first second s t b r → Checked dropped second s t b r' → Alike (Kept (supported M) (contract M N) s t) r r'
    dropped_first = alike s t first second dropped second M N (supported M) N e f d f (supported_twice M) refl

    pub flows-first : (x : ℕ → Amounts) → RightFor (decode first) (decode second) s t x ↔ RightFor (decode dropped) (decode second) s t x
    flows-first x = (
      right-alike s t first second dropped second M N (supported M) N e f d f (supported_twice M) refl x,
      right-alike s t dropped second first second (supported M) N M N d f e f (sym (supported_twice M)) refl x,
    )

  -- and from the second
  module _ (d : decode dropped ≡ accepted (supported N)) where
    pub dropped_second : (b : Buffers) (r r' : Result) → Checked first second s t b r → Checked first dropped s t b r' → Alike (Kept (supported M) (contract M N) s t) r r'
    dropped_second = alike s t first second first dropped M N M (supported N) e f e d refl (supported_twice N)

    pub flows-second : (x : ℕ → Amounts) → RightFor (decode first) (decode second) s t x ↔ RightFor (decode first) (decode dropped) s t x
    flows-second x = (
      right-alike s t first second first dropped M N M (supported N) e f e d refl (supported_twice N) x,
      right-alike s t first dropped first second M (supported N) M N e d e f refl (sym (supported_twice N)) x,
    )

-- plain weights of 0, which send nothing out and take nothing in, would give the same ranks
module _ (first second : List ℕ) (s t : ℕ) (b : Buffers) (r : Result) (h : Checked first second s t b r)
    (M N : Table) (e : decode first ≡ accepted M) (f : decode second ≡ accepted N) (ready : Ready (supported M) (contract M N) s t b) where
  contract-same : contract M N ≡ supported (contract_for M N)
  contract-same = ap (λ (cs : List ℕ). complete cs (supported N)) (supported-codes M) ∙ sym (supported-complete M.codes N)

  pub plain_ranks : (u v : ℕ) → u < states_of M → v < states_of N → rank_at M N s t b r u v ≡ rank M (contract_for M N) u v
  plain_ranks u v a c =
      ranks_judged first second s t b r h M N e f ready u v a c
      ∙ ap (λ (K : Table). rank (supported M) K u v) contract-same
      ∙ rank-supported M (contract_for M N) u v
