-- A buffer that a loop writes piece after piece.
-- Assumes nothing.
use mathlib.Core.Path.{◌≡◌, refl, sym, ◌∙◌, ap, subst}
use mathlib.Core.List.{List, [], ◌∷◌, ◌++◌, append-nil, append_assoc}
use Prim.Native.Nat.{ℕ, zero, suc, ◌+◌, ◌-◌, ◌*◌, ◌≤◌, ◌<◌}
use native.Mathlib.Nat.{le_refl, not-suc-le-zero, zero-add, add-suc, suc-add, add-zero}
use native.Mathlib.Numerals.{add-one}
use native.Mathlib.Omega.{arith}
use lib.ListN.{length, take, drop, set, length-append, length-drop}
use lib.Seq.{drop-set-lt, length-take-le}
use Rattle.simulation.specs.Sum.{sum, below, concat}
use Rattle.simulation.proofs.Finite.Sums.{sum_mono, sum_bound}
use Rattle.simulation.proofs.Finite.Lists.{below_ext}
use Rattle.buffer.specs.Buffer.{over, Filled}
use Rattle.buffer.proofs.Buffer.{part-from, back, part-all, back_all, Written, begun, lend, finish}

-- ---- the pieces f 0, …, f (n - 1) one after the other
concat_snoc : {A : Type 0} (f : ℕ → List A) (i n : ℕ) → concat (below i (suc n) f) ≡ concat (below i n f) ++ f (i + n)
unfolding concat below
concat_snoc f i zero = append-nil (f i) ∙ ap f (sym (add-zero i))
concat_snoc f i (suc n) =
    ap (λ l. f i ++ l) (concat_snoc f (suc i) n ∙ ap (λ (k : ℕ). concat (below (suc i) n f) ++ f k) (suc-add i n ∙ sym (add-suc i n)))
    ∙ sym (append_assoc (f i) (concat (below (suc i) n f)) (f (i + suc n)))

abbrev pub pieces : {A : Type 0} → ℕ → (ℕ → List A) → List A
pieces n f = concat (below 0 n f)

pub pieces-next : {A : Type 0} (f : ℕ → List A) (n : ℕ) → pieces (n + 1) f ≡ pieces n f ++ f n
pieces-next f n = ap (λ (k : ℕ). pieces k f) (add-one n) ∙ concat_snoc f 0 n ∙ ap (λ (k : ℕ). pieces n f ++ f k) (zero-add n)

pub pieces_ext : (f g : ℕ → List ℕ) (n : ℕ) → ((k : ℕ) → k < n → f k ≡ g k) → pieces n f ≡ pieces n g
pieces_ext f g n h = ap concat (below_ext f g 0 n (λ k _ lt. h k (omega arith)))

pub pieces-length : (f : ℕ → List ℕ) (n : ℕ) → length (pieces n f) ≡ sum n (λ k. length (f k))
unfolding sum concat below
pieces-length f zero = refl
pieces-length f (suc n) =
    ap length (ap (λ (k : ℕ). pieces k f) (sym (add-one n)) ∙ pieces-next f n) ∙ length-append (pieces n f) (f n) ∙ omega (arith, pieces-length f n)

-- ---- the buffer with something else from a place on
pub back_room : (at : ℕ) (l ys : List ℕ) → at ≤ length l → at ≤ length (back at l ys)
back_room at l ys le = omega (arith, ap length (back_all at l ys), length-append (take at l) ys, length-take-le at l le)

-- ---- a buffer that holds bs at its start, and is lent on from there for the next piece
extend : {bs old now ys : List ℕ} {at : ℕ} (cs : List ℕ) (r : ℕ) → length bs + length cs ≤ length old → Filled bs at old now
    → r ≡ length cs → ys ≡ over cs (part-from at now) → Written (bs ++ cs) old [] (back at now ys) (at + r)
extend {bs} {old} {now} {ys} {at} cs r room w e put =
    let whole : Written (bs ++ cs) old (cs ++ []) now at =
    subst (λ (l : List ℕ). Written (bs ++ cs) old l now at) (sym (append-nil cs)) (begun cs (omega (arith, length-append bs cs)) w) in
    lend cs [] whole put r [] e refl

-- ---- a loop that writes n pieces after a head, the piece k of at most c k bytes
pub record Plan (head : List ℕ) (f : ℕ → List ℕ) (c : ℕ → ℕ) (n : ℕ) (old : List ℕ) : Type 0 where
  pub room : length head + sum n c ≤ length old
  pub most : (k : ℕ) → k < n → length (f k) ≤ c k

-- the head and k pieces are written
pub record Going (head : List ℕ) (f : ℕ → List ℕ) (n : ℕ) (old : List ℕ) (k at : ℕ) (now : List ℕ) : Type 0 where
  pub below : k ≤ n
  pub filled : Filled (head ++ pieces k f) at old now
  pub kept : length now ≡ length old

-- n pieces of at most c bytes each
pub even_plan : {f : ℕ → List ℕ} {old : List ℕ} (c n : ℕ) → n * c ≤ length old → ((k : ℕ) → k < n → length (f k) ≤ c) → Plan [] f (λ k. c) n old
even_plan c n room most = record { room = omega (arith, sum_bound n c (λ k. c) (λ k _. le_refl c)); most = most }

sum_below : (c : ℕ → ℕ) (n k : ℕ) → k ≤ n → sum k c ≤ sum n c
unfolding sum
sum_below c n k le = let e : n - k + k ≡ n = omega arith in subst (λ (m : ℕ). sum k c ≤ sum m c) e (more (n - k))
  where
    more : (d : ℕ) → sum k c ≤ sum (d + k) c
    more zero = rw (zero-add k) (le_refl (sum k c))
    more (suc d) = rw (suc-add d k) (omega (arith, more d))

module _ {head old : List ℕ} {f : ℕ → List ℕ} {c : ℕ → ℕ} {n : ℕ} (p : Plan head f c n old) where
  so_far : (k : ℕ) → k ≤ n → length (head ++ pieces k f) ≤ length head + sum k c
  so_far k le = omega (arith, length-append head (pieces k f), pieces-length f k, sum_mono k (λ i. length (f i)) c (λ i lt. p.most i (omega arith)))

  fit : (k : ℕ) → k < n → length (head ++ pieces k f) + c k ≤ length old
  unfolding sum
  fit k lt = omega (arith, so_far k (omega arith), sum_below c n (suc k) lt, p.room)

  pub going_start : {now : List ℕ} {at : ℕ} → Filled head at old now → Going head f n old 0 at now
  unfolding below concat
  going_start {now} {at} w =
      let head-room : length head ≤ length old = omega (arith, p.room) in
      record {
        below = omega arith;
        filled = subst (λ l. Filled l at old now) (sym (append-nil head)) w;
        kept = ap length w.bytes ∙ length-append head (drop (length head) old) ∙ omega (arith, length-drop (length head) old);
      }

  module _ {k at : ℕ} {now : List ℕ} (g : Going head f n old k at now) where
    pub going_within : at ≤ length now
    going_within = omega (arith, g.filled.count, g.kept, so_far k g.below, sum_below c n k g.below, p.room)

    module _ (lt : k < n) where
      pub going_room : c k ≤ length (part-from at now)
      going_room = rw (part-all at now, length-drop) (omega (arith, g.filled.count, g.kept, fit k lt))

      pub going_fits : at + c k ≤ length old
      going_fits = omega (arith, g.filled.count, fit k lt)

      pub going_next : {r : ℕ} {ys : List ℕ} → Filled (f k) r (part-from at now) ys → Going head f n old (k + 1) (at + r) (back at now ys)
      going_next {r} {ys} q =
          let w : Written ((head ++ pieces k f) ++ f k) old [] (back at now ys) (at + r) = extend (f k) r (omega (arith, fit k lt, p.most k lt))
          g.filled q.count q.bytes in
          record {
            below = omega arith;
            filled = subst (λ l. Filled l (at + r) old (back at now ys)) (append_assoc head (pieces k f) (f k) ∙ ap (λ l. head ++ l) (sym (pieces-next f k))) (finish w);
            kept = w.kept;
          }

    pub going_end : n ≤ k → Filled (head ++ pieces n f) at old now
    going_end le = let e : k ≡ n = omega (arith, g.below) in subst (λ (m : ℕ). Filled (head ++ pieces m f) at old now) e g.filled

-- the same with other pieces to come
pub going_ext : {head old now : List ℕ} {f : ℕ → List ℕ} {n k at : ℕ} (g : ℕ → List ℕ) → ((i : ℕ) → i < k → f i ≡ g i)
    → Going head f n old k at now → Going head g n old k at now
going_ext {head} {old} {now} {f} {n} {k} {at} g e w =
    record { below = w.below; filled = subst (λ l. Filled (head ++ l) at old now) (pieces_ext f g k e) w.filled; kept = w.kept }

-- a first byte that was stored
pub stored : (v : ℕ) (old : List ℕ) → 0 < length old → Filled (v ∷ []) 1 (set old 0 v) (set old 0 v)
stored v (x ∷ l) room = record { count = refl; bytes = refl }
stored v [] room = absurd (not-suc-le-zero room)

pub stored_past : (v at : ℕ) (bs old now : List ℕ) → Filled (v ∷ bs) at (set old 0 v) now → Filled (v ∷ bs) at old now
stored_past v at bs old now w =
    record { count = w.count; bytes = w.bytes ∙ ap (λ l. (v ∷ bs) ++ l) (drop-set-lt (length (v ∷ bs)) old 0 v (omega arith)) }
