-- The loop of improve: a flow that grows by one path after the other.
-- Assumes nothing.
use mathlib.Core.Path.{sym, subst₂}
use mathlib.Core.List.{List}
use Prim.Native.Nat.{ℕ, ◌+◌, ◌^◌, ◌≤◌, ◌<◌}
use native.Mathlib.Omega.{arith}
use lib.ListN.{length}
use Rattle.word.specs.Mask.{member}
use Rattle.matrix.specs.Flow.{missing, Partial, FlowIn, ImprovedIn}
use Rattle.matrix.proofs.FlowLaws.{improves_refl, improves-on, flow_now}
use Rattle.search.specs.declared.Links.{Links}
use Rattle.search.specs.declared.Path.{Path}
use Rattle.search.specs.Links.{from, via}
use Rattle.search.specs.Search.{SearchRoom, Found, Stuck}
use Rattle.augment.specs.Augments.{Augments, Augmented, AugmentedIn, EndsOf, Pushed}
use Rattle.augment.proofs.PushLaws.{room_of, augmented_next}
use Rattle.transport.specs.Paths.{Grown}

-- n paths led from F to G
pub record Growing (rel : List ℕ) (F G : Partial) (n short free : ℕ) : Type 0 where
  pub improves : ImprovedIn rel F G
  pub ends : EndsOf G (length F.supply) (length F.demand) short free
  pub chain : AugmentedIn rel n F G
  pub bound : n + missing (length F.demand) G.demand ≤ missing (length F.demand) F.demand

pub growing_none : {rel : List ℕ} {F : Partial} {short free : ℕ} → FlowIn rel F → EndsOf F (length F.supply) (length F.demand) short free → Growing rel F F 0 short free
growing_none f e = record { improves = improves_refl f; ends = e; chain = Augmented.none; bound = omega arith }

module _ {rel : List ℕ} {F G : Partial} {n short free : ℕ} (g : Growing rel F G n short free) where
  pub ends_now : EndsOf G (length G.supply) (length G.demand) short free
  ends_now = subst₂ (λ (p q : ℕ). EndsOf G p q short free) (sym g.improves.same_a) (sym g.improves.same_b) g.ends

  -- what a search asks, and then push
  pub search_ready : SearchRoom rel G.senders short
  search_ready = room_of g.improves.flow g.ends.rows

  pub push_ready : (links : Links) {path : Path} → Found rel G.senders short free (from links) (via links) path
      → FlowIn rel G × EndsOf G (length G.supply) (length G.demand) short free × Found rel G.senders short free (from links) (via links) path
  push_ready links f = (flow_now g.improves, ends_now, f)

  module _ {H : Partial} {short' free' : ℕ} (p : Pushed rel G H short' free') where
    pub less : missing (length F.demand) H.demand < missing (length F.demand) G.demand
    less = rw g.improves.same_b at p.less

    pub counts : missing (length F.demand) F.demand < 2 ^ 32 → n + 1 < 2 ^ 32
    counts h = omega (arith, less, g.bound)

    augments : Augments (length F.supply) (length F.demand) rel G.amounts G.supply G.demand G.senders H.amounts H.supply H.demand H.senders
    augments = subst₂ (λ (p q : ℕ). Augments p q rel G.amounts G.supply G.demand G.senders H.amounts H.supply H.demand H.senders)
        g.improves.same_a g.improves.same_b p.augments

    pub growing_next : Growing rel F H (n + 1) short' free'
    growing_next = record {
      improves = improves-on g.improves p.improves;
      ends = subst₂ (λ (p q : ℕ). EndsOf H p q short' free') g.improves.same_a g.improves.same_b p.ends;
      chain = augmented_next g.chain augments;
      bound = omega (arith, less, g.bound);
    }

  pub grown : {from via : ℕ → ℕ} (reached : ℕ) → Stuck rel G.senders short free from via (member reached) → Grown rel n F G reached
  grown reached s = record {
    improves = g.improves;
    ended = record { short = _; free = _; from = _; via = _; rows = g.ends.rows; columns = g.ends.columns; stuck = s };
    chain = g.chain;
    bound = g.bound;
  }
