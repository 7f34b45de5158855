-- Rows that grow, member by member, and the links between states.
-- Assumes nothing.
use mathlib.Core.Path.{◌≡◌, refl, sym, ap, ◌∙◌, subst}
use mathlib.Core.Bool.{Bool, true, ◌||◌}
use mathlib.Core.List.{List}
use mathlib.Core.Logic.{⊎_elim}
use Prim.Native.Nat.{ℕ, ◌+◌, ◌≤◌, ◌<◌}
use native.Mathlib.Omega.{arith}
use native.Mathlib.Decide.{ℕ_discrete}
use borrow.Author.Tests.{eq-eqb, ne_eqb}
use lib.Dec.{eqb}
use lib.ListN.{length, get_or}
use Rattle.simulation.proofs.Finite.Tests.{last_or_below, left_true, right_true}
use Rattle.simulation.specs.Table.{targets, states_of}
use Rattle.form.specs.Form.{transition_at, table_of}
use Rattle.word.specs.Mask.{Test, member, with_member, either}
use Rattle.set.specs.Words.{mask}
use Rattle.relation.specs.Rows.{row_of, height, put_row}
use Rattle.set.specs.declared.Set.{Set}
use Rattle.relation.proofs.RowLaws.{row_put, row_put_other}
use Rattle.relation.specs.Related.{holds}
use Rattle.links.specs.Links.{RowsBelow, Linked, RowsGrown, Joins, Looped}

-- members of a set with one more, and of the union of two
pub with_old : (x y s t : ℕ) → member y ≡ with_member s (member x) → member x t ≡ true → member y t ≡ true
with_old x y s t e h = ap (λ (Y : Test). Y t) e ∙ right_true (eqb t s) (member x t) h

pub with_new : (x y s : ℕ) → member y ≡ with_member s (member x) → member y s ≡ true
with_new x y s e = ap (λ (Y : Test). Y s) e ∙ ap (λ (b : Bool). b || member x s) (eq-eqb s s refl)

pub union_left : (x y z t : ℕ) → member z ≡ either (member x) (member y) → member x t ≡ true → member z t ≡ true
union_left x y z t e h = ap (λ (Z : Test). Z t) e ∙ left_true (member x t) (member y t) h

pub union_right : (x y z t : ℕ) → member z ≡ either (member x) (member y) → member y t ≡ true → member z t ≡ true
union_right x y z t e h = ap (λ (Z : Test). Z t) e ∙ right_true (member x t) (member y t) h

pub grown-none : {rows : List ℕ} → RowsGrown rows rows
grown-none = record { still = λ s t h. h }

pub grown-more : {a b c : List ℕ} → RowsGrown a b → RowsGrown b c → RowsGrown a c
grown-more f g = record { still = λ s t h. g.still s t (f.still s t h) }

-- one row grows
pub grown-set : (rows : List ℕ) (a : ℕ) (x : Set) → a < height rows → ((t : ℕ) → holds rows a t ≡ true → member (mask x) t ≡ true)
    → RowsGrown rows (put_row rows a x)
grown-set rows a x room h = record { still = λ s t m. go s t m (ℕ_discrete s a) }
  where
    go : (s t : ℕ) → holds rows s t ≡ true → Dec (s ≡ a) → holds (put_row rows a x) s t ≡ true
    go s t m (yes e) =
        subst (λ (s : ℕ). holds (put_row rows a x) s t ≡ true) (sym e)
        (ap (λ (y : ℕ). member y t) (row_put rows a x room) ∙ h t (ap (λ (s : ℕ). holds rows s t) (sym e) ∙ m))
    go s t m (no d) = ap (λ (y : ℕ). member y t) (row_put_other rows a s x d) ∙ m

pub set_here : (rows : List ℕ) (a : ℕ) (x : Set) (t : ℕ) → a < height rows → member (mask x) t ≡ true → holds (put_row rows a x) a t ≡ true
set_here rows a x t room h = ap (λ (y : ℕ). member y t) (row_put rows a x room) ∙ h

-- what holds of each number passed
pub each_next : (P : ℕ → Type 0) (n : ℕ) → ((k : ℕ) → k < n → P k) → P n → (k : ℕ) → k < n + 1 → P k
each_next P n h e k a = ⊎_elim (λ q. subst P (sym q) e) (λ b. h k b) (last_or_below k n (omega arith))

-- before has the state s at each target of the transitions from j₀ to before j
abbrev pub LinksTo : (f : List ℕ) (s j₀ j : ℕ) (before : List ℕ) → Type 0
LinksTo f s j₀ j before =
    (k i : ℕ) → j₀ ≤ k → k < j → i < length (targets (transition_at f k)) → holds before (get_or (targets (transition_at f k)) i 0) s ≡ true

-- one transition more
pub links-next : (f : List ℕ) (s j₀ j : ℕ) {ts before before' : List ℕ} → RowsGrown before before' → ts ≡ targets (transition_at f j)
    → ((i : ℕ) → i < length ts → holds before' (get_or ts i 0) s ≡ true) → LinksTo f s j₀ j before → LinksTo f s j₀ (j + 1) before'
links-next f s j₀ j {ts} {before} {before'} grows e here h k i a b =
    each_next (λ k. j₀ ≤ k → i < length (targets (transition_at f k)) → holds before' (get_or (targets (transition_at f k)) i 0) s ≡ true) j
    (λ k b a c. grows.still _ _ (h k i a b c))
    (λ _ c. subst (λ (l : List ℕ). i < length l → holds before' (get_or l i 0) s ≡ true) e (here i) c) k b a

-- rows that grow by s only
pub joins-none : {s : ℕ} {rows : List ℕ} → Joins s rows rows
joins-none = record { grown = grown-none; within = λ n a h. h }

pub joins-more : {s : ℕ} {a b c : List ℕ} → Joins s a b → Joins s b c → Joins s a c
joins-more f g = record { grown = grown-more f.grown g.grown; within = λ n a h. g.within n a (f.within n a h) }

pub joins_set : (rows : List ℕ) (s t : ℕ) (x : Set) → t < height rows → member (mask x) ≡ with_member s (holds rows t) → Joins s rows (put_row rows t x)
joins_set rows s t x room e =
    record {
      grown = grown-set rows t x room (λ k h. with_old (row_of rows t) (mask x) s k e h);
      within = λ n a h u k m. go n a h u k m (ℕ_discrete u t) (ℕ_discrete k s);
    }
  where
    go : (n : ℕ) → s < n → RowsBelow n rows → (u k : ℕ) → holds (put_row rows t x) u k ≡ true → Dec (u ≡ t) → Dec (k ≡ s) → k < n
    go n a h u k m c (yes q) = omega arith
    go n a h u k m (no d) (no q) = h u k (ap (λ (y : ℕ). member y k) (sym (row_put_other rows t u x d)) ∙ m)
    go n a h u k m (yes c) (no q) =
        h t k
        (ap (λ (b : Bool). b || holds rows t k) (sym (ne_eqb k s q))
        ∙ sym (ap (λ (X : Test). X k) e)
        ∙ ap (λ (y : ℕ). member y k) (sym (row_put rows t x room))
        ∙ ap (λ (u : ℕ). holds (put_row rows t x) u k) (sym c)
        ∙ m)

-- what is linked stays so where each state comes before itself too
pub linked_looped : {n : ℕ} {f before before' : List ℕ} → n ≡ states_of (table_of f) → Linked f before → Looped n before before' → length before' ≡ length before → Linked f before'
linked_looped {f = f} {before} {before'} e linked looped same =
    record {
      room = omega (arith, linked.room);
      links = λ s a j i b c d. looped.grown.still _ _ (linked.links s a j i b c d);
      states = subst (λ (n : ℕ). RowsBelow n before') e (looped.within (subst (λ (n : ℕ). RowsBelow n before) (sym e) linked.states));
    }
