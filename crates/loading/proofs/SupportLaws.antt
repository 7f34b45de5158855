-- How the entries are put into a form: those of one transition one after the other, those of all transitions with where they begin.
-- Assumes nothing.
use mathlib.Core.Path.{◌≡◌, refl, sym, ap, ap₂, ◌∙◌, subst}
use mathlib.Core.Logic.{inl, ⊎_elim}
use mathlib.Core.List.{List, [], ◌∷◌, ◌++◌}
use Prim.Native.Nat.{ℕ, ◌+◌, ◌*◌, ◌≤◌, ◌<◌}
use native.Mathlib.Nat.{zero-add, add-zero}
use native.Mathlib.Decide.{dec_lt}
use native.Mathlib.Omega.{arith}
use lib.ListN.{length, set, length-set, length-append}
use lib.Seq.{get_or-set_same, get_or-set_other}
use Rattle.simulation.specs.Sum.{below}
use Rattle.simulation.specs.Limits.{wide, most_transitions, most_entries}
use Rattle.simulation.specs.Table.{Entry}
use Rattle.simulation.specs.Support.{support_entries}
use Rattle.simulation.proofs.Finite.Lists.{below_ext, below_length}
use Rattle.simulation.proofs.Finite.Sums.{sum_more, sum_le, sum_mono}
use Rattle.simulation.proofs.Support.Entries.{support_drops, support_keeps, support-append, support-length}
use Rattle.form.specs.Form.{form_size, entry_starts_from, targets_from, weights_from, listed_from, at, entry_start, entry_at}
use Rattle.form.proofs.Lists.{below-append, below_shift}
use Rattle.layout.specs.Bytes.{size, start, entries_start, decoded_entry, decoded_transition}
use Rattle.layout.proofs.PlaceLaws.{entry-count}
use Rattle.loading.specs.Fill.{Between, entry_in, entries_in, EntriesPut, support_of, support_start, Supports}
use Rattle.loading.proofs.FillLaws.{between_trans}

pub between_none : (a b : ℕ) (f : List ℕ) → Between a b f f
between_none a b f = record { long = refl; kept = λ i l. refl }

pub between-set : (a b i v : ℕ) (f : List ℕ) → a ≤ i → i < b → Between a b f (set f i v)
between-set a b i v f l m =
    record { long = length-set f i v; kept = λ k h. get_or-set_other f i k v 0 (λ q. ⊎_elim (λ x. omega arith) (λ x. omega arith) h) }

-- ---- the entries of one transition

pub put_none : (f : List ℕ) (n : ℕ) → EntriesPut [] f n f n
unfolding below
put_none f n = record { next = omega arith; are = refl; before = λ e l. refl; elsewhere = between_none targets_from listed_from f }

pub put_one : (f : List ℕ) (n : ℕ) (e : Entry) → n < most_entries → form_size ≤ length f
    → EntriesPut (e ∷ []) f n (set (set f (targets_from + n) e.target) (weights_from + n) e.weight) (n + 1)
unfolding below
put_one f n e l room =
    let g = set f (targets_from + n) e.target in
    record {
      next = refl;
      are = ap₂ (λ (t w : ℕ). record { target = t; weight = w } ∷ [])
          (get_or-set_other g (weights_from + n) (targets_from + n) e.weight 0 (λ q. omega arith) ∙ get_or-set_same f (targets_from + n) e.target 0 (omega arith))
          (get_or-set_same g (weights_from + n) e.weight 0 (omega (arith, length-set f (targets_from + n) e.target)));
      before = λ k m. ap₂ (λ (t w : ℕ). record { target = t; weight = w }) (left (targets_from + k) (λ q. omega arith) (λ q. omega arith)) (left (weights_from + k) (λ q. omega arith) (λ q. omega arith));
      elsewhere = between_trans (between-set targets_from listed_from (targets_from + n) e.target f (omega arith) (omega arith)) (between-set targets_from listed_from (weights_from + n) e.weight g (omega arith) (omega arith));
    }
  where
    left : (i : ℕ) → (i ≡ targets_from + n → ⊥) → (i ≡ weights_from + n → ⊥) → at (set (set f (targets_from + n) e.target) (weights_from + n) e.weight) i ≡ at f i
    left i a b =
        get_or-set_other (set f (targets_from + n) e.target) (weights_from + n) i e.weight 0 b ∙ get_or-set_other f (targets_from + n) i e.target 0 a

-- some, and then more
pub put_chain : {es gs : List Entry} {f f' f'' : List ℕ} {n r q : ℕ} → EntriesPut es f n f' r → EntriesPut gs f' r f'' q → EntriesPut (es ++ gs) f n f'' q
put_chain {es} {gs} {f} {f'} {f''} {n} {r} {q} u v =
    let long = length-append es gs in
    let x = u.next in
    record {
      next = omega (arith, v.next);
      are =
          ap (λ (k : ℕ). below n k (entry_at f'')) long
          ∙ below-append (entry_at f'') n (length es) (length gs)
          ∙ ap₂ ◌++◌ (below_ext (entry_at f'') (entry_at f') n (length es) (λ k _ b. v.before k (omega arith)) ∙ u.are)
          (ap (λ (k : ℕ). below k (length gs) (entry_at f'')) (sym x) ∙ v.are);
      before = λ e l. v.before e (omega arith) ∙ u.before e l;
      elsewhere = between_trans u.elsewhere v.elsewhere;
    }

-- an entry is put if its weight is not 0
module _ (e : Entry) {f f' : List ℕ} {n r : ℕ} where
  pub put_zero : e.weight ≡ 0 → EntriesPut [] f n f' r → EntriesPut (support_entries (e ∷ [])) f n f' r
  unfolding support_entries
  put_zero z h = subst (λ (es : List Entry). EntriesPut es f n f' r) (sym (support_drops e [] z)) h

  pub put_counted : 0 < e.weight → EntriesPut (e ∷ []) f n f' r → EntriesPut (support_entries (e ∷ [])) f n f' r
  unfolding support_entries
  put_counted l h = subst (λ (es : List Entry). EntriesPut es f n f' r) (sym (support_keeps e [] l)) h

-- the entries of the bytes, one more
module _ (s : List ℕ) (p : ℕ) where
  entries-more : (k : ℕ) → entries_in s p (k + 1) ≡ entries_in s p k ++ (entry_in s (p + 3 * k) ∷ [])
  unfolding below
  entries-more k = below-append (λ k. entry_in s (p + 3 * k)) 0 k 1 ∙ ap (λ (j : ℕ). entries_in s p k ++ (entry_in s (p + 3 * j) ∷ [])) (zero-add k)

  pub support-none : (f : List ℕ) (n : ℕ) → EntriesPut (support_entries (entries_in s p 0)) f n f n
  unfolding below support_entries
  support-none f n = put_none f n

  pub support-more : {f f' f'' : List ℕ} {n r q : ℕ} (k : ℕ) → EntriesPut (support_entries (entries_in s p k)) f n f' r → EntriesPut (support_entries (entry_in s (p + 3 * k) ∷ [])) f' r f'' q
      → EntriesPut (support_entries (entries_in s p (k + 1))) f n f'' q
  support-more {f} {f'} {f''} {n} {r} {q} k u v =
      subst (λ (es : List Entry). EntriesPut es f n f'' q) (sym (ap support_entries (entries-more k) ∙ support-append (entries_in s p k) (entry_in s (p + 3 * k) ∷ []))) (put_chain u v)

  -- no more of them than there are
  pub support-few : {f f' : List ℕ} {n r : ℕ} (k : ℕ) → EntriesPut (support_entries (entries_in s p k)) f n f' r → r ≤ n + k
  support-few k u = omega (arith, u.next, support-length (entries_in s p k), below_length (λ k. entry_in s (p + 3 * k)) 0 k)

-- ---- those of all transitions

-- the entries of the transition j in the bytes
pub entries_of : (s : List ℕ) (j p n : ℕ) → p ≡ entries_start wide s + 2 + 3 * start wide s j → n ≡ size wide s j → entries_in s p n ≡ (decoded_transition wide s j).entries
unfolding decoded_transition
entries_of s j p n e d =
    below_ext (λ k. entry_in s (p + 3 * k)) (λ k. decoded_entry wide s (start wide s j + k)) 0 n (λ k _ _.
    let q : p + 3 * k ≡ entries_start wide s + 2 + 3 * (start wide s j + k) = omega arith in ap (entry_in s) q)
    ∙ below_shift (decoded_entry wide s) (start wide s j) 0 n
    ∙ ap₂ (λ (a m : ℕ). below a m (decoded_entry wide s)) (add-zero (start wide s j)) d

module _ (s : List ℕ) where
  -- no transition has more of them than it lists, and so no more come before it
  pub support-size : (j : ℕ) → length (support_of s j) ≤ size wide s j
  support-size j = omega (arith, support-length (decoded_transition wide s j).entries, entry-count wide s j)

  pub support_start-few : (j : ℕ) → support_start s j ≤ start wide s j
  support_start-few j = sum_mono j (λ i. length (support_of s i)) (size wide s) (λ i _. support-size i)

  pub starts_none : (f : List ℕ) → Supports s f 0
  starts_none f = record { starts_are = λ j l. absurd (omega arith); runs_are = λ j l. absurd (omega arith) }

  -- where the next begin is written
  module _ (f : List ℕ) (m : ℕ) (few : m ≤ most_transitions) (room : form_size ≤ length f) (v : ℕ) where
    pub start_put : entry_start (set f (entry_starts_from + m) v) m ≡ v
    unfolding entry_start
    start_put = get_or-set_same f (entry_starts_from + m) v 0 (omega arith)

    pub starts-kept : Supports s f m → Supports s (set f (entry_starts_from + m) v) m
    unfolding entry_start
    starts-kept h =
        record {
          starts_are = λ j l. get_or-set_other f (entry_starts_from + m) (entry_starts_from + j) v 0 (λ q. omega arith) ∙ h.starts_are j l;
          runs_are = λ j l.
              below_ext (entry_at (set f (entry_starts_from + m) v)) (entry_at f) (support_start s j) (length (support_of s j)) (λ e _ _.
              ap₂ (λ (t w : ℕ). record { target = t; weight = w }) (get_or-set_other f (entry_starts_from + m) (targets_from + e) v 0 (λ q. omega arith)) (get_or-set_other f (entry_starts_from + m) (weights_from + e) v 0 (λ q. omega arith)))
              ∙ h.runs_are j l;
        }

  -- and then they
  pub supports_more : {f f' : List ℕ} {j r : ℕ} → j < most_transitions → Supports s f j → entry_start f j ≡ support_start s j → EntriesPut (support_of s j) f (support_start s j) f' r
      → Supports s f' (j + 1) × (r ≡ support_start s (j + 1))
  unfolding entry_start
  supports_more {f} {f'} {j} {r} few h here u = (record { starts_are = starts; runs_are = runs }, u.next ∙ sum_more j (λ i. length (support_of s i)) refl)
    where
      same : (i : ℕ) → i ≤ j → entry_start f' i ≡ entry_start f i
      same i l = u.elsewhere.kept (entry_starts_from + i) (inl (omega arith))

      starts : (i : ℕ) → i < j + 1 → entry_start f' i ≡ support_start s i
      starts i l = go (dec_lt i j)
        where
          go : Dec (i < j) → entry_start f' i ≡ support_start s i
          go (yes m) = same i (omega arith) ∙ h.starts_are i m
          go (no m) = let q : i ≡ j = omega arith in rw q (same j (omega arith) ∙ here)

      runs : (i : ℕ) → i < j + 1 → below (support_start s i) (length (support_of s i)) (entry_at f') ≡ support_of s i
      runs i l = go (dec_lt i j)
        where
          go : Dec (i < j) → below (support_start s i) (length (support_of s i)) (entry_at f') ≡ support_of s i
          go (yes m) =
              below_ext (entry_at f') (entry_at f) (support_start s i) (length (support_of s i)) (λ e _ b. u.before e (omega (arith, sum_le i j (λ i. length (support_of s i)) m)))
              ∙ h.runs_are i m
          go (no m) = let q : i ≡ j = omega arith in rw q u.are
