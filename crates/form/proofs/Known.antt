-- What a form and two tables hold by their types: forms that were loaded. A code is listed at one place, which a type does not keep;
-- a search through the codes finds it.
-- Assumes nothing.
use mathlib.Core.Path.{sym, subst}
use mathlib.Core.Logic.{∥∥₁_elim}
use mathlib.Core.List.{List}
use Prim.Native.Nat.{ℕ}
use lib.Dec.{T}
use Rattle.std.proofs.Props.{props}
use Rattle.simulation.specs.Table.{transition}
use Rattle.simulation.specs.Complete.{lists}
use Rattle.simulation.proofs.Complete.Codes.{lists_at, lists_by}
use Rattle.form.specs.declared.form.Form.{Form}
use Rattle.form.specs.declared.tables.Tables.{Tables}
use Rattle.form.specs.Form.{table_of, Loaded}
use Rattle.form.specs.Valid.{Listed}
use Rattle.form.specs.Tables.{BothLoaded}

listed_by : (codes : List ℕ) (c : ℕ) → Listed codes c → T (lists codes c)
listed_by codes c h = subst (λ (d : ℕ). T (lists codes d)) h.2 (lists_by codes h.0 h.1)

listed_at : (codes : List ℕ) (c : ℕ) → T (lists codes c) → Listed codes c
listed_at codes c t = let h = lists_at codes c t in (h.0, h.1, sym h.2)

loaded_form : {f : List ℕ} → ∥ Loaded f ∥₁ → Loaded f
loaded_form {f} l = record {
  room = ∥∥₁_elim l (Prim.hlevel props) (λ x. x.room);
  from_zero = ∥∥₁_elim l (Prim.hlevel props) (λ x. x.from_zero);
  ordered = ∥∥₁_elim l (Prim.hlevel props) (λ x. x.ordered);
  few_transitions = ∥∥₁_elim l (Prim.hlevel props) (λ x. x.few_transitions);
  entries_ordered = ∥∥₁_elim l (Prim.hlevel props) (λ x. x.entries_ordered);
  few_entries = ∥∥₁_elim l (Prim.hlevel props) (λ x. x.few_entries);
  valid = record {
    codes = ∥∥₁_elim l (Prim.hlevel props) (λ x. x.valid.codes);
    shape = record {
      some = ∥∥₁_elim l (Prim.hlevel props) (λ x. x.valid.shape.some);
      few_states = ∥∥₁_elim l (Prim.hlevel props) (λ x. x.valid.shape.few_states);
      few_transitions = ∥∥₁_elim l (Prim.hlevel props) (λ x. x.valid.shape.few_transitions);
      few_entries = ∥∥₁_elim l (Prim.hlevel props) (λ x. x.valid.shape.few_entries);
      listed = λ s k a b.
          let codes = (table_of f).codes in
          let c = (transition (table_of f) s k).code in
          listed_at codes c (∥∥₁_elim l (Prim.hlevel props) (λ x. listed_by codes c (x.valid.shape.listed s k a b)));
      distribution = ∥∥₁_elim l (Prim.hlevel props) (λ x. x.valid.shape.distribution);
    };
    few_each = ∥∥₁_elim l (Prim.hlevel props) (λ x. x.valid.few_each);
  };
  positive = ∥∥₁_elim l (Prim.hlevel props) (λ x. x.positive);
  listed_enough = ∥∥₁_elim l (Prim.hlevel props) (λ x. x.listed_enough);
  few_listed = ∥∥₁_elim l (Prim.hlevel props) (λ x. x.few_listed);
}

pub loaded : (f : Form) → Loaded f.numbers.now
loaded f = loaded_form f.loaded

pub both_loaded : (t : Tables) → BothLoaded t
both_loaded t = record { first = loaded t.first; second = loaded t.second }
