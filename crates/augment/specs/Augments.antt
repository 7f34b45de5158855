-- One augmenting path with what it moves, and several one after the other.
-- Assumes nothing.
use Rattle.std.specs.Prelude.{◌≡◌, true, List, ℕ, zero, suc, ◌<◌, min, length, get_or}
use Rattle.word.specs.Mask.{Test, member}
use Rattle.relation.specs.Related.{holds}
use Rattle.matrix.specs.Matrix.{AddsAt}
use Rattle.matrix.specs.Masks.{MaskOf}
use Rattle.matrix.specs.Flow.{Partial, missing, ImprovedIn}
use Rattle.search.specs.Search.{Reaches}
use Rattle.augment.specs.Path.{root, carried, Moved}

-- one augmenting path: a search found it, from a short row, its root, to row r, and column c is free and related to r.
-- It is moved by the most that it carries: the least of what its root has left, what c can take, and the amounts that it takes away
pub record Augments (p q : ℕ) (rel x a b senders x' a' b' senders' : List ℕ) : Type 0 where
  pub short : ℕ
  pub free : ℕ
  pub from : ℕ → ℕ
  pub via : ℕ → ℕ
  pub reached : Test
  pub r : ℕ
  pub depth : ℕ
  pub c : ℕ
  pub d : ℕ
  pub rows : MaskOf p (λ i. get_or a i 0) short
  pub columns : MaskOf q (λ j. get_or b j 0) free
  pub found : Reaches rel senders short free from via reached r depth
  pub related : holds rel r c ≡ true
  pub is_free : member free c ≡ true
  pub most : d ≡ min (carried from via x depth r (get_or b c 0)) (get_or a (root from via depth r) 0)
  pub moved : Moved from via d depth r c x senders x' senders'
  pub sent : AddsAt a' a (root from via depth r) d
  pub taken : AddsAt b' b c d

-- n augmenting paths, one after the other
pub data Augmented (p q : ℕ) (rel : List ℕ) : ℕ → (x a b senders x' a' b' senders' : List ℕ) → Type 0 where
  none : {x a b senders : List ℕ} → Augmented p q rel zero x a b senders x a b senders
  more : {n : ℕ} {x a b senders x' a' b' senders' x'' a'' b'' senders'' : List ℕ} → Augmented p q rel n x a b senders x' a' b' senders'
      → Augments p q rel x' a' b' senders' x'' a'' b'' senders'' → Augmented p q rel (suc n) x a b senders x'' a'' b'' senders''

-- one path, and n of them, in a partial flow
abbrev pub AugmentsIn : List ℕ → Partial → Partial → Type 0
AugmentsIn rel F G =
    Augments (length F.supply) (length F.demand) rel F.amounts F.supply F.demand F.senders G.amounts G.supply G.demand G.senders

abbrev pub AugmentedIn : List ℕ → ℕ → Partial → Partial → Type 0
AugmentedIn rel n F G =
    Augmented (length F.supply) (length F.demand) rel n F.amounts F.supply F.demand F.senders G.amounts G.supply G.demand G.senders

-- the ends of a partial flow: the rows with something left to send and the columns with something left to take
pub record EndsOf (F : Partial) (p q short free : ℕ) : Type 0 where
  pub rows : MaskOf p (λ i. get_or F.supply i 0) short
  pub columns : MaskOf q (λ j. get_or F.demand j 0) free

-- what a push leaves: a better flow by one path, with less to take, and its ends
pub record Pushed (rel : List ℕ) (F G : Partial) (short free : ℕ) : Type 0 where
  pub improves : ImprovedIn rel F G
  pub augments : AugmentsIn rel F G
  pub less : missing (length F.demand) G.demand < missing (length F.demand) F.demand
  pub ends : EndsOf G (length F.supply) (length F.demand) short free
