-- What stays when the entries of weight 0 are dropped from a table (02, E2): two calls that differ in that alone, with the results r and r'.
-- proofs/Dropped proves it of a drop from the first table and of one from the second.
-- Assumes nothing.
use Rattle.std.specs.Prelude.{◌≡◌}
use Rattle.compare.specs.Outcome.{Result}

-- the ranks and the tree buffer are the same, and if the pair is not kept all of the result is, so 22 and 23 too;
-- if it is kept, the room asked for its flow may differ, and with it whether 21 is given
pub record Alike (kept : Type 0) (r r' : Result) : Type 0 where
  pub ranks : r'.buffers.ranks ≡ r.buffers.ranks
  pub tree : r'.buffers.tree ≡ r.buffers.tree
  pub whole : ¬ kept → r' ≡ r
