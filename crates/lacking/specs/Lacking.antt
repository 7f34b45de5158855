-- The states of a table that lack a code.
-- Assumes nothing.
use Rattle.std.specs.Prelude.{not, ◌&&◌, ℕ, ltb}
use Rattle.word.specs.Mask.{Test}
use Rattle.fit.specs.Held.{coded}
use Rattle.simulation.specs.Sum.{all_of}
use Rattle.simulation.specs.Table.{Transition, Table, states_of, steps}

-- the states of a table that lack a code
abbrev pub lacks : Table → ℕ → Test
lacks N c t = ltb t (states_of N) && not (coded c (steps N t))

-- those that lack a code of the state s of another table
abbrev pub lacks_one : Table → Table → ℕ → Test
lacks_one M N s t = ltb t (states_of N) && not (all_of (λ (m : Transition). coded m.code (steps N t)) (steps M s))
