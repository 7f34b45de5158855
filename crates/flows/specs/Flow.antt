-- The flows of a kept pair, in bytes (01, "Keeping, ranking, sharing out").
-- Assumes nothing.
use Rattle.std.specs.Prelude.{cond, not, List, [], ◌∷◌, ◌++◌, ℕ, ◌+◌, ◌*◌, ◌/◌, ◌%◌, ◌<◌, T, ltb, eqb, get_or}
use Rattle.std.proofs.Math.ListN.{length}
use Rattle.simulation.specs.Sum.{sum, when, below, concat}
use Rattle.simulation.specs.Fit.{Amounts, Shares}
use Rattle.simulation.specs.Table.{Transition, Table, weights, targets, states_of, steps, transition}
use Rattle.simulation.specs.Round.{Relation, between, round, pairs}
use Rattle.simulation.specs.Limits.{most_states, most_of_state, most_entries}
use Rattle.fit.specs.Partner.{place}

-- the pairs that every round keeps
abbrev pub kept_relation : Table → Table → Relation
kept_relation M N = round M N (pairs M N)

abbrev pub two_bytes : ℕ → List ℕ
two_bytes n = n % 256 ∷ n / 256 ∷ []

abbrev pub four_bytes : ℕ → List ℕ
four_bytes n = n % 256 ∷ n / 256 % 256 ∷ n / 65536 % 256 ∷ n / 16777216 ∷ []

-- the record of an amount: target of s, target of t, amount
abbrev pub record_of : (target target' amount : ℕ) → List ℕ
record_of s t a = s ∷ t ∷ four_bytes a

-- one record for an amount that is not zero
unfoldable pub flow_record : (target target' amount : ℕ) → List ℕ
flow_record s t a = cond (eqb a 0) [] (record_of s t a)

-- the records of one target, in the order of the targets ns
unfoldable pub flow_row : ℕ → List ℕ → (ℕ → ℕ) → List ℕ
unfolding below concat flow_record
flow_row s ns a = concat (below 0 (length ns) (λ j. flow_record s (get_or ns j 0) (a j)))

-- the records of all targets ms, ordered by the first, then the second
unfoldable pub flow_records : (ms ns : List ℕ) → Amounts → List ℕ
unfolding below concat flow_row
flow_records ms ns x = concat (below 0 (length ms) (λ i. flow_row (get_or ms i 0) ns (x i)))

-- how many of the amounts are not zero
unfoldable pub amounts_count : (p q : ℕ) → Amounts → ℕ
unfolding sum
amounts_count p q x = sum p (λ i. sum q (λ j. when (not (eqb (x i j) 0)) 1))

-- place and count of amounts, then the records
abbrev pub head_of : (place count : ℕ) → List ℕ
head_of k c = k ∷ two_bytes c

unfoldable pub flow_of : ℕ → (ms ns : List ℕ) → Amounts → List ℕ
unfolding amounts_count flow_records
flow_of k ms ns x = head_of k (amounts_count (length ms) (length ns) x) ++ flow_records ms ns x

-- the place of an added transition in a flow: no listed transition has it
abbrev pub added_place : ℕ
added_place = most_of_state

-- a place as a flow names it, where the first n are those of listed transitions
unfoldable pub named_place : (n k : ℕ) → ℕ
named_place n k = cond (ltb k n) k added_place

-- the flow of one transition m over n, the transition at place k
abbrev pub one_flow : ℕ → Transition → Transition → Amounts → List ℕ
one_flow k m n x = flow_of k (targets m) (targets n) x

-- what the buffer must have for the flow of a transition of n entries over one of a table of q states
abbrev pub step_room : (q n : ℕ) → ℕ
step_room q n = 3 + 6 * n * q

-- what it must have for the flows of n transitions, of which the transition k has e k entries
unfoldable pub room_for : (q n : ℕ) (e : ℕ → ℕ) → ℕ
unfolding sum
room_for q n e = 1 + sum n (λ k. step_room q (e k))

module _ (M N : Table) where
  -- the place in t of the transition that the transition k of s is shared out over, and that transition
  abbrev pub place_of : (s t k : ℕ) → ℕ
  place_of s t k = place (kept_relation M N) (transition M s k) (steps N t)

  abbrev pub partner : (s t k : ℕ) → Transition
  partner s t k = transition N t (place_of s t k)

  -- x k: amounts for the transition k of s. They are free, and right
  unfoldable pub Right : (s t : ℕ) → (ℕ → Amounts) → Type 0
  Right s t x = (k : ℕ) → k < length (steps M s) →
      Shares (λ i j. T (between (kept_relation M N) (transition M s k) (partner s t k) i j)) (weights (transition M s k)) (weights (partner s t k)) (x k)

  -- where the first transitions of t are listed, and the others were added to complete the table
  unfoldable pub flow_bytes : (listed s t : ℕ) → (ℕ → Amounts) → List ℕ
  unfolding below concat flow_of place round named_place
  flow_bytes listed s t x =
      length (steps M s) ∷ concat (below 0 (length (steps M s)) (λ k. one_flow (named_place listed (place_of s t k)) (transition M s k) (partner s t k) (x k)))

  -- what the flow buffer must have: all entries of M count, those of weight 0 too
  abbrev pub flow_room : ℕ → ℕ
  flow_room s = room_for (states_of N) (length (steps M s)) (λ k. length (transition M s k).entries)

-- the most that it must have: a state has all the transitions that it can have, and they have all entries, over a table with all states
abbrev pub most_flow : ℕ
most_flow = 1 + 3 * most_of_state + 6 * most_entries * most_states
