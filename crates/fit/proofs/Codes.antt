-- What the codes of two transitions tell of a fit, and that the code of a transition is listed.
-- Assumes nothing.
use mathlib.Core.Path.{◌≡◌, sym, ap, ◌∙◌}
use mathlib.Core.Bool.{Bool, false, ◌&&◌}
use mathlib.Core.List.{List}
use mathlib.Core.Logic.{◌≢◌}
use Prim.Native.Nat.{ℕ}
use borrow.Author.Tests.{eq-eqb, ne_eqb}
use lib.Dec.{T, eqb, eqb→eq}
use Rattle.simulation.specs.Fit.{fits?}
use Rattle.simulation.specs.Table.{Transition, weights, steps, no_transition, transition}
use Rattle.simulation.specs.Round.{Relation, between, fits_step}
use Rattle.simulation.specs.Complete.{lists}
use Rattle.simulation.proofs.Finite.Lists.{any_of-at}
use Rattle.simulation.proofs.Complete.Codes.{lists-same}
use Rattle.form.specs.Form.{Loaded, table_of}
use Rattle.form.proofs.Contract.{own-codes}
use Rattle.fit.specs.Held.{coded}

module _ (R : Relation) (m n : Transition) where
  -- transitions of other codes do not fit
  pub other-code : m.code ≢ n.code → false ≡ fits_step R m n
  unfolding fits_step
  other-code d = ap (λ (b : Bool). b && fits? (between R m n) (weights m) (weights n)) (sym (ne_eqb m.code n.code d))

  pub same_code : {r : Bool} → m.code ≡ n.code → r ≡ fits? (between R m n) (weights m) (weights n) → r ≡ fits_step R m n
  unfolding fits_step
  same_code e h = h ∙ ap (λ (b : Bool). b && fits? (between R m n) (weights m) (weights n)) (sym (eq-eqb m.code n.code e))

-- the code of a transition of a loaded table is listed
pub coded-listed : (f : List ℕ) (loaded : Loaded f) (t c : ℕ) → T (coded c (steps (table_of f) t)) → T (lists (table_of f).codes c)
coded-listed f loaded t c h =
    let r = any_of-at (λ (n : Transition). eqb c n.code) no_transition (steps (table_of f) t) h in
    lists-same (table_of f).codes (eqb→eq c (transition (table_of f) t r.0).code r.2) ((own-codes f loaded).listed t r.0 r.1)
