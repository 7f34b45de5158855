-- How many augmenting paths the kernel took: the length of a chain of flows from the greedy start to the result.
-- Assumes nothing.
use Rattle.std.specs.Prelude.{List, ℕ, ◌+◌, ◌*◌, ◌≤◌, length}
use Rattle.simulation.specs.Fit.{weight, total}
use Rattle.matrix.specs.Masks.{Used}
use Rattle.word.specs.Mask.{member}
use Rattle.matrix.specs.Flow.{missing, Partial, ImprovedIn}
use Rattle.search.specs.Search.{Ended}
use Rattle.augment.specs.Augments.{Augmented, AugmentedIn}
use Rattle.greedy.specs.Greedy.{Greedy}
use Rattle.greedy.specs.Start.{Balanced}

-- n paths led from the greedy start, x₁ with a₁ and b₁ left, to x: no more than the start left to take
pub record Counts (ws vs rel x : List ℕ) (n : ℕ) : Type 0 where
  pub x₁ : List ℕ
  pub a₁ : List ℕ
  pub b₁ : List ℕ
  pub senders₁ : List ℕ
  pub a : List ℕ
  pub b : List ℕ
  pub senders : List ℕ
  pub greedy : Greedy (length ws) (length vs) rel (λ i. weight ws i * total vs) (λ j. weight vs j * total ws) x₁
  pub left : Balanced ws vs x₁ a₁ b₁
  pub used : Used (length ws) (length vs) x₁ senders₁
  pub chain : Augmented (length ws) (length vs) rel n x₁ a₁ b₁ senders₁ x a b senders
  pub bound : n ≤ missing (length vs) b₁

-- n paths led from F to G, which has no path left: the search that found none reached the rows of the mask
pub record Grown (rel : List ℕ) (n : ℕ) (F G : Partial) (reached : ℕ) : Type 0 where
  pub improves : ImprovedIn rel F G
  pub ended : Ended (length F.supply) (length F.demand) rel G.supply G.demand G.senders (member reached)
  pub chain : AugmentedIn rel n F G
  pub bound : n + missing (length F.demand) G.demand ≤ missing (length F.demand) F.demand
