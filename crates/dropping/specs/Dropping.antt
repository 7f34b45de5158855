-- What a round finds the pairs that fall with, and what it finds.
-- Assumes nothing.
use Rattle.form.specs.declared.tables.Tables.{Tables}
use Rattle.std.specs.Prelude.{List, ℕ, ◌≤◌}
use Rattle.simulation.specs.Limits.{most_states}
use Rattle.relation.specs.Rows.{height}
use Rattle.form.specs.Tables.{second_form, first_table, contract_table}
use Rattle.decision.specs.Fitting.{relation_of}
use Rattle.fit.specs.Known.{TargetSets, Tried}
use Rattle.links.specs.declared.lists.Marks.{Marks}
use Rattle.links.specs.Links.{Empty}
use Rattle.dropping.specs.Falling.{DoubtsKnown, Fallen}

-- what a round finds the pairs that fall with: those in doubt are known, and none is lost yet
pub record Dropping (tables : Tables) (sets rows : List ℕ) (marks : Marks) (doubtful : ℕ) : Type 0 where
  pub target_sets : TargetSets (second_form tables) sets
  pub rows_room : most_states ≤ height rows
  pub ready : DoubtsKnown (first_table tables) (contract_table tables) rows doubtful marks.doubt.now
  pub none_lost : Empty marks.lost.now

-- what it finds: the pairs that fall, and what was tried for it
pub record Dropped (tables : Tables) (rows : List ℕ) (marks : Marks) (tried : List ℕ) (fell : ℕ) : Type 0 where
  pub fallen : Fallen (first_table tables) (contract_table tables) (relation_of tables rows) marks.lost.now fell
  pub known : Tried tables rows tried
