-- From the start to the greedy flow, and on to a flow that no path improves.
-- Assumes nothing.
use mathlib.Core.Path.{◌≡◌, sym, ◌∙◌, refl, subst, subst₂}
use mathlib.Core.List.{List}
use Prim.Native.Nat.{ℕ, ◌+◌, ◌^◌, ◌≤◌, ◌<◌}
use native.Mathlib.Omega.{arith}
use lib.ListN.{length, get_or}
use Rattle.simulation.specs.Limits.{most_states}
use Rattle.word.specs.Mask.{member}
use Rattle.relation.specs.Rows.{row_of, height}
use Rattle.matrix.specs.Problem.{Given}
use Rattle.matrix.specs.Matrix.{cell}
use Rattle.matrix.specs.Masks.{MaskOf}
use Rattle.matrix.specs.Flow.{missing, Partial, Flow, FlowIn, Improves, ImprovedIn}
use Rattle.matrix.proofs.MatrixLaws.{outside_trans}
use Rattle.matrix.proofs.FlowLaws.{improves_trans, flow_now}
use Rattle.greedy.specs.Start.{Begun, Balanced}
use Rattle.greedy.specs.Greedy.{Greedy}
use Rattle.greedy.proofs.StartLaws.{begun, balanced, missing-fits}
use Rattle.greedy.proofs.GreedyLaws.{greedy-is}
use Rattle.search.specs.Search.{Ended}
use Rattle.augment.specs.Augments.{Augmented}
use Rattle.transport.specs.Answer.{MaximumFlow}
use Rattle.transport.specs.Paths.{Counts, Grown}
use Rattle.transport.proofs.Certificate.{finished}

abbrev Better : List ℕ → (p q : ℕ) → Partial → Partial → Type 0
Better rel p q A B = Improves p q rel A.amounts A.supply A.demand A.senders B.amounts B.supply B.demand B.senders

-- a flow F that sends nothing, as long as the distributions
pub record StartOf (ws vs rel x₀ : List ℕ) (F : Partial) : Type 0 where
  pub given : Given ws vs rel x₀
  pub begun : Begun ws vs x₀ F.amounts F.supply F.demand
  pub same_length : length F.amounts ≡ length x₀
  pub rows : length F.supply ≡ length ws
  pub columns : length F.demand ≡ length vs

module _ {ws vs rel x₀ : List ℕ} {F : Partial} (s : StartOf ws vs rel x₀ F) where
  -- what fill asks
  pub fill_ready : most_states ≤ height F.senders → ((j : ℕ) → row_of F.senders j ≡ 0)
      → FlowIn rel F × ((i j : ℕ) → i < length F.supply → j < length F.demand → cell F.amounts i j ≡ 0)
  fill_ready room none = (
    subst₂ (λ (p q : ℕ). Flow p q rel F.amounts F.supply F.demand F.senders) (sym s.rows) (sym s.columns)
        (begun s.begun F.senders s.given s.same_length (omega (arith, s.rows)) (omega (arith, s.columns)) room none),
    λ i j h l. s.begun.cleared.zero i j (omega (arith, s.rows)) (omega (arith, s.columns)),
  )

  -- the greedy flow G
  module _ {G : Partial} {free : ℕ} (k : ImprovedIn rel F G × MaskOf (length F.demand) (λ j. get_or G.demand j 0) free
      × Greedy (length F.supply) (length F.demand) rel (λ i. get_or F.supply i 0) (λ j. get_or F.demand j 0) G.amounts) where
    pub rows_left : length G.supply ≡ length ws
    rows_left = k.0.same_a ∙ s.rows

    pub columns-left : length G.demand ≡ length vs
    columns-left = k.0.same_b ∙ s.columns

    filled : Better rel (length ws) (length vs) F G
    filled = subst₂ (λ (p q : ℕ). Better rel p q F G) s.rows s.columns k.0

    left : Balanced ws vs G.amounts G.supply G.demand
    left = balanced s.begun filled.preserves

    -- what improve asks
    pub improve_ready : FlowIn rel G × MaskOf (length G.demand) (λ j. get_or G.demand j 0) free × (missing (length G.demand) G.demand < 2 ^ 32)
    improve_ready = (
      flow_now k.0,
      subst (λ (q : ℕ). MaskOf q (λ j. get_or G.demand j 0) free) (sym k.0.same_b) k.1,
      subst (λ (q : ℕ). missing q G.demand < 2 ^ 32) (sym columns-left) (missing-fits s.given left),
    )

    -- n paths lead to H, which no path improves
    module _ {H : Partial} {n r : ℕ} (w : Grown rel n G H r) where
      improved : Better rel (length ws) (length vs) F H
      improved = improves_trans filled (subst₂ (λ (p q : ℕ). Better rel p q G H) rows_left columns-left w.improves)

      answer : r < 2 ^ most_states → MaximumFlow ws vs rel x₀ H.amounts r
      answer l =
          let d = subst₂ (λ (p q : ℕ). Ended p q rel H.supply H.demand H.senders (member r)) rows_left columns-left w.ended in
          finished r improved.flow d (balanced s.begun improved.preserves) l (outside_trans s.begun.cleared.outside improved.outside) (improved.same_x ∙ s.same_length)

      counts : Counts ws vs rel H.amounts n
      counts = record {
        x₁ = G.amounts;
        a₁ = G.supply;
        b₁ = G.demand;
        senders₁ = G.senders;
        a = H.supply;
        b = H.demand;
        senders = H.senders;
        greedy = greedy-is refl s.begun.supplies.supply s.begun.demands.supply
            (subst₂ (λ (p q : ℕ). Greedy p q rel (λ i. get_or F.supply i 0) (λ j. get_or F.demand j 0) G.amounts) s.rows s.columns k.2);
        left = left;
        used = filled.flow.used;
        chain = subst₂ (λ (p q : ℕ). Augmented p q rel n G.amounts G.supply G.demand G.senders H.amounts H.supply H.demand H.senders) rows_left columns-left w.chain;
        bound = omega (arith, subst (λ (q : ℕ). n + missing q H.demand ≤ missing q G.demand) columns-left w.bound);
      }

      pub answers : r < 2 ^ most_states → MaximumFlow ws vs rel x₀ H.amounts r × Counts ws vs rel H.amounts n
      answers l = (answer l, counts)
