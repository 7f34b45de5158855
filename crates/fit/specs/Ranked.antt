-- Two transitions compared in the relation of a round, out of ranks.
-- Assumes nothing.
use Rattle.form.specs.declared.tables.Tables.{Tables}
use Rattle.std.specs.Prelude.{◌≡◌, false, List, ℕ, ◌≤◌, ◌<◌, eqb, length}
use Rattle.simulation.specs.Limits.{most_pairs}
use Rattle.simulation.specs.Fit.{fits?}
use Rattle.simulation.specs.Table.{Transition, weights}
use Rattle.simulation.specs.Round.{Relation, between}
use Rattle.simulation.specs.Tree.{cut_of}
use Rattle.word.specs.Mask.{member}
use Rattle.relation.specs.Rows.{row_of}
use Rattle.form.specs.Form.{transitions_of}
use Rattle.form.specs.Tables.{first_form, second_form}
use Rattle.relate.specs.Ranked.{RanksRight}

-- two transitions by their numbers, to be compared in the round before round r
pub record InRound (tables : Tables) (ranks : List ℕ) (r j k : ℕ) (amounts : List ℕ) : Type 0 where
  pub ranked : RanksRight tables ranks
  pub later : 0 < r
  pub from_first : j < transitions_of (first_form tables)
  pub from_second : k < transitions_of (second_form tables)
  pub amounts_room : most_pairs ≤ length amounts

-- the relation R between the targets of m and of n as rows of masks, and 01's smallest of the sets with the largest excess
pub record Cut (R : Relation) (m n : Transition) (rel : List ℕ) (mask : ℕ) : Type 0 where
  pub fit : fits? (between R m n) (weights m) (weights n) ≡ eqb mask 0
  pub smallest : (i : ℕ) → i < length m.entries → cut_of R m n i ≡ member mask i
  pub no_others : (i : ℕ) → length m.entries ≤ i → member mask i ≡ false
  pub related : (i k : ℕ) → i < length m.entries → k < length n.entries → member (row_of rel i) k ≡ between R m n i k
