-- Tables P and C of 01 with what its text says of them, and small tables that tell wrong definitions apart.
-- Assumes nothing.
use Rattle.std.specs.Prelude.{◌≡◌, refl, List, [], ◌∷◌, ℕ}
use Rattle.std.proofs.Common.{inl, arith}
use Rattle.simulation.specs.Sum.{below}
use Rattle.simulation.specs.Table.{Entry, Transition, Table}
use Rattle.simulation.specs.Support.{supported}
use Rattle.simulation.specs.Complete.{lists, added, complete, contract_for}
use Rattle.simulation.specs.Chain.{Chained, Mediates}
use Rattle.simulation.specs.Round.{rank, rank_list, maximum, zeros}
use Rattle.simulation.specs.Tree.{depth, tree, node_bytes}
use Rattle.simulation.specs.Length.{pair_length, tree_length}

abbrev pub entry : ℕ → ℕ → Entry
entry t w = record { target = t; weight = w }

abbrev pub on : ℕ → List Entry → Transition
on a es = record { code = a; entries = es }

-- to state 1 with weight w, to state 2 with weight 1
abbrev pub fork : ℕ → Transition
fork w = on 10 (entry 1 w ∷ entry 2 1 ∷ [])

-- back to the state s
abbrev pub stay : ℕ → ℕ → Transition
stay a s = on a (entry s 1 ∷ [])

abbrev pub with_first : ℕ → Table
with_first w = record { codes = 10 ∷ 20 ∷ []; states = (fork w ∷ []) ∷ (stay 20 1 ∷ []) ∷ [] ∷ [] }

abbrev pub P : Table
P = with_first 3

abbrev pub C : Table
C = with_first 1

-- ranks

unfoldable pub ranks_of : Table → Table → List (List ℕ)
unfolding below rank
ranks_of M N = below 0 3 (λ s. below 0 3 (rank M N s))

pc : ranks_of P C ≡ (2 ∷ 1 ∷ 1 ∷ []) ∷ (1 ∷ 0 ∷ 1 ∷ []) ∷ (0 ∷ 0 ∷ 0 ∷ []) ∷ []
unfolding ranks_of
pc = refl

pp : ranks_of P P ≡ (0 ∷ 1 ∷ 1 ∷ []) ∷ (1 ∷ 0 ∷ 1 ∷ []) ∷ (0 ∷ 0 ∷ 0 ∷ []) ∷ []
unfolding ranks_of
pp = refl

-- two targets that can each be sent out alone, and not together
abbrev pub twins : Table
twins = record { codes = 10 ∷ 20 ∷ []; states = (fork 1 ∷ []) ∷ (stay 20 1 ∷ []) ∷ (stay 20 2 ∷ []) ∷ [] }

together : rank twins C 0 0 ≡ 2
unfolding rank
together = refl

-- trees

pc_tree : node_bytes (tree P C 0 0) ≡ 1 ∷ 10 ∷ 0 ∷ 2 ∷ 1 ∷ 3 ∷ 0 ∷ 1 ∷ 20 ∷ 0 ∷ 1 ∷ 1 ∷ 1 ∷ 0 ∷ 0 ∷ 2 ∷ 1 ∷ 0 ∷ 0 ∷ []
unfolding node_bytes tree
pc_tree = refl

pc_length : tree_length P C 0 0 ≡ 19
unfolding pair_length
pc_length = refl

-- a contract with two like-coded steps, both to be beaten; the second has sets {2} and {1, 2} of the largest excess
abbrev pub pod : Table
pod = record { codes = 10 ∷ 20 ∷ 30 ∷ []; states = (fork 1 ∷ []) ∷ (stay 20 1 ∷ []) ∷ (stay 30 2 ∷ []) ∷ [] }

abbrev pub contract : Table
contract = record { codes = 10 ∷ 20 ∷ 30 ∷ []; states = (stay 10 1 ∷ fork 1 ∷ []) ∷ (stay 20 1 ∷ []) ∷ [] ∷ [] }

both_beaten : node_bytes (tree pod contract 0 0) ≡ 1 ∷ 10 ∷ 0 ∷ 2 ∷ 1 ∷ 1 ∷ 0 ∷ 0 ∷ 2 ∷ 1 ∷ 0 ∷ 2 ∷ 30 ∷ 0 ∷ 1 ∷ 2 ∷ 1 ∷ 0 ∷ 0 ∷ 30 ∷ 0 ∷ 1 ∷ 2 ∷ 1 ∷ 0 ∷ 0 ∷ []
unfolding node_bytes tree
both_beaten = refl

two_deep : depth (tree pod contract 0 0) ≡ 2
unfolding depth tree
two_deep = refl

-- a target that is the pair's own state, which falls in the same round
abbrev pub returning : ℕ → Table
returning w = record { codes = 10 ∷ 20 ∷ []; states = (on 10 (entry 0 1 ∷ entry 1 w ∷ []) ∷ []) ∷ (stay 20 1 ∷ []) ∷ [] }

round_before : node_bytes (tree (returning 3) (returning 1) 0 0) ≡ 1 ∷ 10 ∷ 0 ∷ 2 ∷ 0 ∷ 1 ∷ 0 ∷ 0 ∷ 1 ∷ 3 ∷ 0 ∷ 1 ∷ 20 ∷ 0 ∷ 1 ∷ 1 ∷ 1 ∷ 0 ∷ 0 ∷ []
unfolding node_bytes tree
round_before = refl

-- two transitions that the contract has no answer to: the first is chosen, whose code needs both its bytes
abbrev pub two_ways : Table
two_ways = record { codes = 20 ∷ 522 ∷ []; states = (stay 522 0 ∷ stay 20 0 ∷ []) ∷ [] }

abbrev pub no_way : Table
no_way = record { codes = []; states = [] ∷ [] }

first_chosen : node_bytes (tree two_ways no_way 0 0) ≡ 1 ∷ 10 ∷ 2 ∷ 1 ∷ 0 ∷ 1 ∷ 0 ∷ 0 ∷ []
unfolding node_bytes tree
first_chosen = refl

-- all ranks, the count of rounds and the count of kept pairs
pc_list : rank_list P C ≡ 2 ∷ 1 ∷ 1 ∷ 1 ∷ 0 ∷ 1 ∷ 0 ∷ 0 ∷ 0 ∷ []
unfolding rank_list
pc_list = refl

pc_rounds : maximum (rank_list P C) ≡ 2
unfolding maximum rank_list
pc_rounds = refl

pc_kept : zeros (rank_list P C) ≡ 4
unfolding zeros rank_list
pc_kept = refl

-- entries of weight 0: P as it is written where every outcome was watched

abbrev pub watched_P : Table
watched_P = record {
  codes = 10 ∷ 20 ∷ [];
  states = (on 10 (entry 0 0 ∷ entry 1 3 ∷ entry 2 1 ∷ []) ∷ []) ∷ (on 20 (entry 0 0 ∷ entry 1 1 ∷ entry 2 0 ∷ []) ∷ []) ∷ [] ∷ [];
}

never_counted : supported watched_P ≡ P
unfolding supported
never_counted = refl

-- the ranks are those of P also by plain weights of 0, which send nothing out and take nothing in
plain_ranks : rank_list watched_P C ≡ rank_list P C
unfolding rank_list
plain_ranks = refl

-- but not the tree, in which each would be a child
plain_tree : node_bytes (tree watched_P C 0 0) ≡ 1 ∷ 10 ∷ 0 ∷ 3 ∷ 0 ∷ 0 ∷ 0 ∷ 0 ∷ 1 ∷ 3 ∷ 0 ∷ 1 ∷ 20 ∷ 0 ∷ 3 ∷ 0 ∷ 0 ∷ 0 ∷ 0 ∷ 1 ∷ 1 ∷ 0 ∷ 0 ∷ 2 ∷ 0 ∷ 0 ∷ 0 ∷ 2 ∷ 1 ∷ 0 ∷ 0 ∷ []
unfolding node_bytes tree
plain_tree = refl

-- contracts that govern only some codes

in_order : added (7 ∷ []) (9 ∷ 7 ∷ 8 ∷ 9 ∷ 8 ∷ []) ≡ 9 ∷ 8 ∷ []
unfolding added
in_order = refl

-- a code that is listed and that no transition has is not added
abbrev pub arming : Table
arming = record { codes = 10 ∷ 15 ∷ []; states = (stay 10 1 ∷ []) ∷ [] ∷ [] }

completed : complete (10 ∷ 15 ∷ 20 ∷ 30 ∷ []) arming
    ≡ record { codes = 10 ∷ 15 ∷ 20 ∷ 30 ∷ []; states = (stay 10 1 ∷ stay 20 0 ∷ stay 30 0 ∷ []) ∷ (stay 20 1 ∷ stay 30 1 ∷ []) ∷ [] }
unfolding complete
completed = refl

-- a pod with a code of its own is kept by a contract without codes
abbrev pub display : Table
display = record { codes = 10 ∷ []; states = (stay 10 0 ∷ []) ∷ [] }

kept : (rank display no_way 0 0 ∷ rank display (contract_for display no_way) 0 0 ∷ []) ≡ 1 ∷ 0 ∷ []
unfolding rank complete
kept = refl

-- but a code that the contract lists must be answered by a transition
abbrev pub listing : Table
listing = record { codes = 10 ∷ []; states = [] ∷ [] }

refused : rank display (contract_for display listing) 0 0 ≡ 1
unfolding rank complete
refused = refl

-- the pod goes by a code of its own to a state that the contract's state can't answer: the step stands in the tree, over the one that stays
abbrev pub later : Table
later = record { codes = 10 ∷ 20 ∷ []; states = (on 20 (entry 0 1 ∷ entry 1 2 ∷ []) ∷ []) ∷ (stay 10 1 ∷ []) ∷ [] }

later_tree : node_bytes (tree later (contract_for later listing) 0 0) ≡ 1 ∷ 20 ∷ 0 ∷ 2 ∷ 0 ∷ 1 ∷ 0 ∷ 0 ∷ 1 ∷ 2 ∷ 0 ∷ 1 ∷ 10 ∷ 0 ∷ 1 ∷ 1 ∷ 1 ∷ 0 ∷ 0 ∷ []
unfolding node_bytes tree complete
later_tree = refl

-- chains of contracts

-- through a table between P and C, both of whose ranks are as large as that of the whole chain
chained : Chained (rank P C 0 0) (rank P (with_first 2) 0 0) (rank (with_first 2) C 0 0)
unfolding rank
chained _ = inl (omega arith, omega arith)

-- a middle table that does not list a code of the two others breaks the chain: it keeps the pod, and the last keeps it
broken : (rank display (contract_for display no_way) 0 0 ∷ rank no_way (contract_for no_way listing) 0 0 ∷ rank display (contract_for display listing) 0 0 ∷ []) ≡ 0 ∷ 0 ∷ 1 ∷ []
unfolding rank complete
broken = refl

pub not_mediated : ¬ Mediates display no_way listing
unfolding lists
not_mediated h = h 10 tt tt
