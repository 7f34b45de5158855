-- `ranking::rank_with` meets its contract: the rows hold the kept pairs, and their count fits.
-- Assumes nothing.
use native.Mathlib.Omega.{arith}
use Rattle.form.specs.Tables.{first_form}
use Rattle.form.proofs.FormLaws.{limits}
use Rattle.form.proofs.Contract.{contract-few}
use Rattle.ranking.proofs.Ends.{kept-few, filled}
use Rattle.ranking.proofs.Zeros.{zeros_of}
use Rattle.ranking.proofs.rank_with.Goals as goal

pub whole_as_slice-fill_ranks : goal.whole_as_slice-fill_ranks
whole_as_slice-fill_ranks g c = omega (arith, c.requires.2)

pub fill_ranks-rounds-requires : goal.fill_ranks-rounds-requires
fill_ranks-rounds-requires g c = let z = zeros_of g.row.N in (c.requires.0, omega (arith, z.0, c.requires.1), z.1)

pub overflow_cast-result : goal.overflow_cast-result
overflow_cast-result g c =
    omega (arith, kept-few _ c.states.result (omega (arith, c.states.ensures, (limits (first_form c.args.tables.now) c.requires.0.loaded.first).states-few)) c.count-kept.ensures)

pub returns : goal.returns
returns g c =
    let tables = c.args.tables.now in
    filled tables _ (contract-few tables c.requires.0.loaded) c.requires.0.ranks_room (omega arith) c.states.ensures c.fill_ranks-rounds.ensures c.count-kept.ensures
