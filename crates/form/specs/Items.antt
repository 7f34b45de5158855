-- All transitions and all entries of a table, in order.
-- Assumes nothing.
use Rattle.std.specs.Prelude.{List, map}
use Rattle.simulation.specs.Sum.{concat}
use Rattle.simulation.specs.Table.{Entry, Transition, Table}

abbrev pub all_transitions : Table → List Transition
all_transitions M = concat M.states

abbrev pub all_entries : Table → List Entry
all_entries M = concat (map (λ (m : Transition). m.entries) (all_transitions M))
