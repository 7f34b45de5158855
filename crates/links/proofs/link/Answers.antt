-- `links::link` meets its contract. The loop's invariant: the states passed are linked.
-- Assumes nothing.
use mathlib.Core.Path.{sym, ◌∙◌, subst}
use mathlib.Core.Bool.{true≢false}
use Prim.Native.Nat.{ℕ}
use native.Mathlib.Omega.{arith}
use Rattle.links.specs.Links.{RowsBelow}
use Rattle.links.proofs.Growing.{each_next}
use Rattle.links.proofs.link.Goals as goal

pub loop-s-init : goal.loop-s-init
loop-s-init c = (λ r a. absurd (omega arith), λ t s h. absurd (true≢false (sym h ∙ c.requires.1 t s)))

pub link_state-requires : goal.link_state-requires
link_state-requires c = (omega (arith, c.states-n.ensures), omega arith)

pub loop-s-preserved : goal.loop-s-preserved
loop-s-preserved c =
    let l = c.loop-s in
    let e = c.link_state.ensures in
    (each_next _ l.s (λ r b j i u v w. e.0.grown.still _ _ (l.invariant.0 r b j i u v w)) e.1, e.0.within _ (omega arith) l.invariant.1)

pub returns : goal.returns
returns c =
    let n = c.states-n.ensures in
    record {
      room = omega arith;
      links = λ s a. c.loop-s.invariant.0 s (omega arith);
      states = subst (λ (n : ℕ). RowsBelow n c.loop-s.before) n c.loop-s.invariant.1;
    }
