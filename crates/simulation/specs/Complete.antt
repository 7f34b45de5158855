-- A contract that governs only some codes, completed for the others (02, E3; source 001: completed by Dirac self-loops).
-- Assumes nothing.
use Rattle.std.specs.Prelude.{Bool, true, false, List, [], ◌∷◌, ◌++◌, map, ℕ, eqb}
use Rattle.simulation.specs.Sum.{all_of, any_of, below}
use Rattle.simulation.specs.Table.{Transition, Table, targets, states_of, steps}
use Rattle.simulation.specs.Round.{Relation, related}

-- the code is in the list
unfoldable pub lists : List ℕ → ℕ → Bool
unfolding any_of
lists l c = any_of (eqb c) l

-- the codes of cs that are not in l, in order and without repeats
unfoldable pub added : (l cs : List ℕ) → List ℕ
unfolding lists
added l [] = []
added l (c ∷ cs) = elim (lists l c) [ true ↦ added l cs | false ↦ c ∷ added (c ∷ l) cs ]

-- the one transition of the state t to itself, weight 1
abbrev pub self_loop : (t c : ℕ) → Transition
self_loop t c = record { code = c; entries = record { target = t; weight = 1 } ∷ [] }

-- N with a self-loop in every state, after the transitions that the state has, for each code of cs that N does not list
unfoldable pub complete : (cs : List ℕ) → Table → Table
unfolding added below
complete cs N =
    record {
      codes = N.codes ++ added N.codes cs;
      states = below 0 (states_of N) (λ t. steps N t ++ map (self_loop t) (added N.codes cs));
    }

-- what M is judged against: N completed for the codes of M
abbrev pub contract_for : (M N : Table) → Table
contract_for M N = complete M.codes N

-- every target of m is related to the state t: what it takes to fit a self-loop of t
unfoldable pub all_related : Relation → Transition → ℕ → Bool
unfolding all_of
all_related R m t = all_of (λ u. related R u t) (targets m)
