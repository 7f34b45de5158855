-- A table without its entries of weight 0 (02, E2): an outcome that was watched and never counted is no target.
-- The support of a distribution is where its weights are not 0.
-- Assumes nothing.
use Rattle.std.specs.Prelude.{List, [], ◌∷◌, map, ℕ, zero, suc}
use Rattle.simulation.specs.Table.{Entry, Transition, Table}

-- e before es, or es alone if the weight of e, given as w, is 0
abbrev pub if_counted : (w : ℕ) → Entry → List Entry → List Entry
if_counted zero e es = es
if_counted (suc w) e es = e ∷ es

-- the entries whose weight is not 0
unfoldable pub support_entries : List Entry → List Entry
support_entries [] = []
support_entries (e ∷ es) = if_counted e.weight e (support_entries es)

unfoldable pub support_step : Transition → Transition
unfolding support_entries
support_step m = record { code = m.code; entries = support_entries m.entries }

-- what is judged of a table: each transition with its support alone
unfoldable pub supported : Table → Table
unfolding support_step
supported M = record { codes = M.codes; states = map (map support_step) M.states }
