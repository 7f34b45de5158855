-- How a form is filled: a column number by number, the form column by column.
-- Assumes nothing.
use mathlib.Core.Path.{◌≡◌, refl, sym, ap, ◌∙◌}
use mathlib.Core.Logic.{inl, inr, ⊎_elim}
use mathlib.Core.List.{List}
use Prim.Native.Nat.{ℕ, ◌+◌, ◌*◌, ◌-◌, ◌≤◌, ◌<◌}
use native.Mathlib.Decide.{dec_lt}
use native.Mathlib.Omega.{arith}
use lib.ListN.{length, set, drop, length-set, length-drop}
use lib.Seq.{ext_get_or, get_or-drop, get_or-set_same, get_or-set_other}
use Rattle.simulation.specs.Sum.{sum}
use Rattle.simulation.proofs.Finite.Sums.{sum_ext}
use Rattle.table.specs.declared.parts.Layout.{Layout}
use Rattle.simulation.specs.Limits.{wide}
use Rattle.layout.specs.Bytes.{byte, half, count}
use Rattle.form.specs.Form.{form_size, states_from, actions_from, starts_from, entries_listed_from, codes_from, listed_from, at, start_of, entries_listed}
use Rattle.loading.specs.Fill.{FormFilled, FormFilledBy, run, Counts, Columns, Between, Laid}
use Rattle.table.proofs.PartLaws.{Parts, parts-known}
use Rattle.layout.proofs.Bounds.{code-at-is, label-at-is}
use Rattle.layout.proofs.Fields.{half-field}

pub filled_none : (f : List ℕ) (from : ℕ) (g : ℕ → ℕ) → FormFilled f from 0 g f
filled_none f from g = record { long = refl; filled = λ i l. absurd (omega arith); kept = λ i l. refl }

pub filled_more : (f : List ℕ) (from i : ℕ) (g : ℕ → ℕ) {f' : List ℕ} (v : ℕ) → FormFilled f from i g f' → from + i < length f → v ≡ g i
    → FormFilled f from (i + 1) g (set f' (from + i) v)
filled_more f from i g {f'} v w l e =
    record {
      long = length-set f' (from + i) v ∙ w.long;
      filled = λ k b. here k b (dec_lt k i);
      kept = λ k b. get_or-set_other f' (from + i) k v 0 (λ q. ⊎_elim (λ a. omega arith) (λ a. omega arith) b) ∙ w.kept k (⊎_elim (λ a. inl a) (λ a. inr (omega arith)) b);
    }
  where
    here : (k : ℕ) → k < i + 1 → Dec (k < i) → at (set f' (from + i) v) (from + k) ≡ g k
    here k b (yes h) = get_or-set_other f' (from + i) (from + k) v 0 (λ q. omega arith) ∙ w.filled k h
    here k b (no h) =
        let q : k ≡ i = omega arith in
        rw q (get_or-set_same f' (from + i) v 0 (omega (arith, w.long)) ∙ e)

pub filled-one : (f : List ℕ) (at v : ℕ) → at < length f → FormFilled f at 1 (λ i. v) (set f at v)
filled-one f at v l =
    let e : at + 0 ≡ at = omega arith in
    rw e at (filled_more f at 0 (λ i. v) v (filled_none f at (λ i. v)) (omega arith) refl)

-- numbers of which P holds, where P tells them
pub filled_as : {P : ℕ → ℕ → Type 0} {f f' : List ℕ} {from n : ℕ} (g : ℕ → ℕ) → FormFilledBy P f from n f' → ((i v : ℕ) → i < n → P i v → v ≡ g i) → FormFilled f from n g f'
filled_as g w h = record { long = w.long; filled = λ i l. h i _ l (w.filled i l); kept = w.kept }

-- what a column leaves alone
pub filled-between : {f f' : List ℕ} {from n : ℕ} {g : ℕ → ℕ} (a b : ℕ) → FormFilled f from n g f' → a ≤ from → from + n ≤ b → Between a b f f'
filled-between a b w l m = record { long = w.long; kept = λ i h. w.kept i (⊎_elim (λ x. inl (omega arith)) (λ x. inr (omega arith)) h) }

pub between_trans : {a b : ℕ} {f g h : List ℕ} → Between a b f g → Between a b g h → Between a b f h
between_trans u v = record { long = v.long ∙ u.long; kept = λ i l. v.kept i l ∙ u.kept i l }

pub between_wider : {a b : ℕ} {f g : List ℕ} (c d : ℕ) → Between a b f g → c ≤ a → b ≤ d → Between c d f g
between_wider c d u l m = record { long = u.long; kept = λ i h. u.kept i (⊎_elim (λ x. inl (omega arith)) (λ x. inr (omega arith)) h) }

pub between-beyond : {a b : ℕ} {f g : List ℕ} → Between a b f g → drop b g ≡ drop b f
between-beyond {a} {b} {f} {g} u =
    ext_get_or 0 (drop b g) (drop b f) (length-drop b g ∙ ap (λ n. n - b) u.long ∙ sym (length-drop b f))
    (λ i l. get_or-drop b g i 0 ∙ u.kept (b + i) (inr (omega arith)) ∙ sym (get_or-drop b f i 0))

pub parts_of : {s : List ℕ} {t : Layout} {f : List ℕ} → Laid s t f → Parts wide s t
parts_of l = parts-known wide _ _ l.passed l.parts

module _ (s : List ℕ) (t : Layout) (p : Parts wide s t) where
  -- the counts and the starts, written one after the other
  pub counts_by : {f f₁ f₂ f₃ : List ℕ}
      → FormFilled f states_from 1 (λ i. t.states.count) f₁
      → FormFilled f₁ actions_from 1 (λ i. t.actions) f₂
      → FormFilled f₂ starts_from (t.states.count + 1) (λ i. sum i (run s t.states.at 1)) f₃
      → Counts s f₃ × Between 0 entries_listed_from f f₃
  unfolding start_of
  counts_by u v w = (
    record {
      states_are = w.kept 0 (inl (omega arith)) ∙ v.kept 0 (inl (omega arith)) ∙ u.filled 0 (omega arith) ∙ p.states_are;
      actions_are = w.kept 1 (inl (omega arith)) ∙ v.filled 0 (omega arith) ∙ p.actions_are;
      starts_are = λ q l. w.filled q (omega (arith, p)) ∙ sum_ext q (run s t.states.at 1) (count wide s) (λ i m. ap (byte s) (omega (arith, p.counts-from)));
    },
    between_trans (filled-between 0 entries_listed_from u (omega arith) (omega arith))
        (between_trans (filled-between 0 entries_listed_from v (omega arith) (omega arith)) (filled-between 0 entries_listed_from w (omega arith) (omega (arith, p)))),
  )

  -- the columns, written one after the other
  pub columns_by : {f f₁ f₂ f₃ : List ℕ}
      → FormFilled f entries_listed_from t.transitions.count (run s (t.transitions.at + 2) 3) f₁
      → FormFilled f₁ codes_from t.transitions.count (λ i. half s (t.transitions.at + 3 * i)) f₂
      → FormFilled f₂ listed_from t.actions (λ i. half s (2 + 2 * i)) f₃
      → Columns s f₃ × Between entries_listed_from form_size f f₃
  unfolding entries_listed
  columns_by u v w = (
    record {
      sizes_are = λ j l.
          w.kept (entries_listed_from + j) (inl (omega (arith, p))) ∙ v.kept (entries_listed_from + j) (inl (omega (arith, p)))
          ∙ u.filled j (omega (arith, p)) ∙ ap (byte s) (omega (arith, p.transitions-from));
      codes_are = λ j l.
          w.kept (codes_from + j) (inl (omega (arith, p)))
          ∙ v.filled j (omega (arith, p)) ∙ ap (half s) (omega (arith, p.transitions-from)) ∙ sym (label-at-is wide s j ∙ half-field s _);
      listed_are = λ i l. w.filled i (omega (arith, p)) ∙ sym (code-at-is wide s i ∙ half-field s _);
    },
    between_trans (filled-between entries_listed_from form_size u (omega arith) (omega (arith, p)))
        (between_trans (filled-between entries_listed_from form_size v (omega arith) (omega (arith, p))) (filled-between entries_listed_from form_size w (omega arith) (omega (arith, p)))),
  )
