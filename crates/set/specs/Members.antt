-- A walk over the members of a set, lowest first.
-- Assumes nothing.
use Rattle.std.specs.Prelude.{◌≡◌, Option, MatchOption, ℕ, ◌<◌}
use Rattle.simulation.specs.Limits.{most_states}
use Rattle.word.specs.Mask.{member, without_member, Lowest}
use Rattle.set.specs.Words.{mask}
use Rattle.set.specs.declared.members.Members.{Members}

-- t is the lowest member of the set m, and n is left of it without t
pub record Taken (m t n : ℕ) : Type 0 where
  pub state : t < most_states
  pub lowest : Lowest (member m) t
  pub left : member n ≡ without_member t (member m)

-- a step of the walk takes the lowest member that is left, or none where nothing is left
abbrev pub Step : Members → Option ℕ → Members → Type 0
Step m r n = MatchOption r ((mask m.left ≡ 0) × (mask n.left ≡ 0)) (λ t. Taken (mask m.left) t (mask n.left))
