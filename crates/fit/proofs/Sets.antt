-- The sets of targets, number by number.
-- Assumes nothing.
use mathlib.Core.Path.{◌≡◌, sym, ap, subst}
use mathlib.Core.List.{List}
use mathlib.Core.Logic.{⊎_elim}
use Prim.Native.Nat.{ℕ, ◌+◌, ◌<◌}
use native.Mathlib.Omega.{arith}
use lib.ListN.{length}
use Rattle.simulation.specs.Table.{targets, states_of}
use Rattle.simulation.proofs.Finite.Tests.{last_or_below}
use Rattle.set.specs.Words.{mask}
use Rattle.relation.specs.Rows.{row_of, height, put_row}
use Rattle.set.specs.declared.Set.{Set}
use Rattle.relation.proofs.RowLaws.{row_put, row_put_other}
use Rattle.form.specs.Form.{start_of, transitions_of, transition_at, table_of}
use Rattle.form.proofs.FormLaws.{states-count}
use Rattle.bounds.specs.Quick.{SetOf}
use Rattle.fit.specs.Known.{TargetSets}

-- the first l places have the target sets of their transitions
abbrev pub SetsTo : List ℕ → ℕ → List ℕ → Type 0
SetsTo g l sets = (k : ℕ) → k < l → SetOf (targets (transition_at g k)) (length (targets (transition_at g k))) (row_of sets k)

pub sets-next : (g sets : List ℕ) (l : ℕ) (x : Set) {ts : List ℕ} → l < height sets → ts ≡ targets (transition_at g l) → SetOf ts (length ts) (mask x) → SetsTo g l sets → SetsTo g (l + 1) (put_row sets l x)
sets-next g sets l x room e h before k a =
    ⊎_elim
    (λ q.
    subst (λ (k : ℕ). SetOf (targets (transition_at g k)) (length (targets (transition_at g k))) (row_of (put_row sets l x) k)) (sym q)
    (subst (SetOf _ _) (sym (row_put sets l x room)) (subst (λ (ts : List ℕ). SetOf ts (length ts) (mask x)) e h)))
    (λ b. subst (SetOf _ _) (sym (row_put_other sets l k x (λ q. omega arith))) (before k b))
    (last_or_below k l (omega arith))

pub set_at : {g sets : List ℕ} → TargetSets g sets → (l : ℕ) → l < transitions_of g → SetOf (targets (transition_at g l)) (length (targets (transition_at g l))) (row_of sets l)
set_at h l a = record { has = λ i b. h.has l i a b; only = λ u m. h.only l u a m }

-- the transitions of all states are all transitions
pub last-start : (f : List ℕ) → start_of f (states_of (table_of f)) ≡ transitions_of f
unfolding transitions_of
last-start f = ap (start_of f) (states-count f)
