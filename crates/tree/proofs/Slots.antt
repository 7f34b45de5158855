-- A list that is written into a buffer part by part: the place of a part, what is left to be written, and where a loop over parts stands.
-- Assumes nothing.
use mathlib.Core.Path.{◌≡◌, sym, ap, ◌∙◌, subst}
use mathlib.Core.Logic.{◌⊎◌, inl, inr, ⊎_elim}
use mathlib.Core.List.{List}
use Prim.Native.Nat.{ℕ, ◌+◌, ◌-◌, ◌*◌, ◌^◌, ◌≤◌, ◌<◌}
use native.Mathlib.Nat.{le_refl}
use native.Mathlib.Omega.{arith}
use lib.ListN.{length, get_or}
use Rattle.std.specs.Prelude.{Option, None, IfSome}
use Rattle.std.specs.Option.{option_or}
use Rattle.std.proofs.lemmas.Option.{IfSome_then}
use Rattle.word.proofs.Mask.{below_or_not}
use Rattle.tree.specs.declared.write.Rest.{Rest}
use Rattle.tree.specs.declared.write.Source.{Source}
use Rattle.tree.specs.Parts.{At, offset, Left, whole, but, Around}
use Rattle.tree.proofs.Places.{at_trans, piece, placed, piece_length, placed_length, placed_before, placed_in, placed_after}

-- what is left in a part of a buffer begins in the buffer
pub offset_fits : {src : Source} {total now : List ℕ} {hole : Option Rest} {n : ℕ} (a : ℕ) → Left src total n now hole → a + n < 2 ^ 64
    → IfSome hole (λ (r : Rest). a + r.at < 2 ^ 64)
offset_fits a (whole _) h = tt
offset_fits a (but p) h = omega (arith, p.within)

-- ---- a part and its place

-- the list P stands in `total` from a to b, and the buffer `now` has room for it
pub record Slot (total : List ℕ) (a b : ℕ) (now P : List ℕ) : Type 0 where
  pub ordered : a ≤ b
  pub room : b ≤ length now
  pub part : At total a P
  pub size : length P ≡ b - a

module _ {total : List ℕ} {a b : ℕ} {now P : List ℕ} (slot : Slot total a b now P) where
  -- the part of the buffer that is lent is as long
  pub slot_lent : length (piece a b now) ≡ length P
  slot_lent = piece_length a b now slot.ordered slot.room ∙ sym slot.size

  module _ (ys : List ℕ) (same : length ys ≡ length (piece a b now)) where
    slot_same : length ys ≡ b - a
    slot_same = same ∙ piece_length a b now slot.ordered slot.room

    pub slot_kept : length (placed a b now ys) ≡ length now
    slot_kept = placed_length a b now slot.ordered slot.room ys slot_same

    slot_before : (k : ℕ) → k < a → get_or (placed a b now ys) k 0 ≡ get_or now k 0
    slot_before = placed_before a b now slot.ordered slot.room ys slot_same

    -- a byte of the part
    slot_in : (k : ℕ) → a ≤ k → k < b → get_or ys (k - a) 0 ≡ get_or P (k - a) 0 → get_or (placed a b now ys) k 0 ≡ get_or total k 0
    slot_in k le lt put =
        let e : a + (k - a) ≡ k = omega arith in
        subst (λ (j : ℕ). get_or (placed a b now ys) j 0 ≡ get_or total j 0) e
        (placed_in a b now slot.ordered slot.room ys slot_same (k - a) (omega arith) ∙ put ∙ sym (slot.part.same (k - a) (omega (arith, slot.size))))

    -- a byte of the buffer, in the part or not
    byte_placed : (k : ℕ) → ((k < a) ⊎ (b ≤ k) → get_or now k 0 ≡ get_or total k 0) → (a ≤ k → k < b → get_or ys (k - a) 0 ≡ get_or P (k - a) 0)
        → get_or (placed a b now ys) k 0 ≡ get_or total k 0
    byte_placed k out put = by (below_or_not k a) (below_or_not k b)
      where
        by : (k < a) ⊎ (a ≤ k) → (k < b) ⊎ (b ≤ k) → get_or (placed a b now ys) k 0 ≡ get_or total k 0
        by (inl h) _ = slot_before k h ∙ out (inl h)
        by (inr h) (inr h') = placed_after a b now slot.ordered slot.room ys slot_same k h' ∙ out (inr h')
        by (inr h) (inl h') = slot_in k h h' (put h h')

    -- the part after those so far is written
    left-more : {src : Source} {rest : Option Rest} → ((k : ℕ) → k < length P → get_or ys k 0 ≡ get_or P k 0) → Left src total a now rest
        → Left src total b (placed a b now ys) rest
    left-more put (whole w) =
        whole (λ k lt. byte_placed k (λ o. ⊎_elim (w k) (λ h. absurd (omega arith)) o) (λ h h'. put (k - a) (omega (arith, slot.size))))
    left-more put (but p) =
        but
        (record {
          measured = p.measured;
          size = p.size;
          part = p.part;
          within = omega (arith, p.within, slot.ordered);
          written = λ k lt out.
              byte_placed k (λ o. ⊎_elim (λ h. p.written k h out) (λ h. absurd (omega arith)) o) (λ h h'. put (k - a) (omega (arith, slot.size)));
        })

    -- the part is written, but for what is left of it, among bytes that are written
    pub left_inner : {src : Source} {hole : Option Rest} (n : ℕ) → b ≤ n → ((k : ℕ) → k < n → (k < a) ⊎ (b ≤ k) → get_or now k 0 ≡ get_or total k 0)
        → Left src P (length P) ys hole → Left src total n (placed a b now ys) (offset hole a)
    left_inner n le out (whole w) = whole (λ k lt. byte_placed k (out k lt) (λ h h'. w (k - a) (omega (arith, slot.size))))
    left_inner n le out (but {rest = hole} p) =
        but
        (record {
          measured = p.measured;
          size = p.size;
          part = at_trans slot.part p.part;
          within = omega (arith, p.within, slot.size, slot.ordered);
          written = λ k lt o. byte_placed k (out k lt) (λ h h'. p.written (k - a) (omega (arith, slot.size)) (shift k h o));
        })
      where
        shift : (k : ℕ) → a ≤ k → (k < a + hole.at) ⊎ (a + hole.at + hole.len ≤ k) → (k - a < hole.at) ⊎ (hole.at + hole.len ≤ k - a)
        shift k h (inl o) = inl (omega arith)
        shift k h (inr o) = inr (omega arith)

-- ---- a loop over parts

-- the loop is at n: a part longer than half at most is left, past the first byte
pub record PartLoop (src : Source) (total : List ℕ) (half n : ℕ) (now : List ℕ) (rest : Option Rest) : Type 0 where
  pub begun : 0 < n
  pub held : Left src total n now rest
  pub less : IfSome rest (λ (r : Rest). r.len < n)
  pub long : IfSome rest (λ (r : Rest). half < r.len)

-- only the first bytes are written, and nothing is left
pub stand_begins : {src : Source} {total : List ℕ} {half n : ℕ} {now : List ℕ} → 0 < n → ((k : ℕ) → k < n → get_or now k 0 ≡ get_or total k 0)
    → PartLoop src total half n now None
stand_begins pos first = record { begun = pos; held = whole first; less = tt; long = tt }

-- the part P is written, but for a part of it that is longer than half
pub record PartsDone (src : Source) (P : List ℕ) (half : ℕ) (now : List ℕ) (hole : Option Rest) : Type 0 where
  pub left : Left src P (length P) now hole
  pub long : IfSome hole (λ (r : Rest). half < r.len)

pub around_done : {src : Source} {P : List ℕ} {half : ℕ} {now : List ℕ} {hole : Option Rest} → Around src P half now hole → PartsDone src P half now hole
around_done w = record { left = w.left; long = w.long }

-- a loop that is at the end has written all but what is left
pub stand_ends : {src : Source} {total : List ℕ} {half n : ℕ} {now : List ℕ} {rest : Option Rest} → n ≡ length total
    → PartLoop src total half n now rest → Around src total half now rest
stand_ends {src} {total} {now = now} {rest = rest} e l =
    record {
      left = subst (λ (k : ℕ). Left src total k now rest) e l.held;
      less = subst (λ (k : ℕ). IfSome rest (λ (r : Rest). r.len < k)) e l.less;
      long = l.long;
    }

module _ {src : Source} {total : List ℕ} {half a b : ℕ} {now P : List ℕ} {rest : Option Rest}
    (l : PartLoop src total half a now rest) (slot : Slot total a b now P) (ys : List ℕ) (same : length ys ≡ length (piece a b now)) where
  -- the next part is written
  pub stand_whole : ((k : ℕ) → k < length P → get_or ys k 0 ≡ get_or P k 0) → PartLoop src total half b (placed a b now ys) rest
  stand_whole put =
      record {
        begun = omega (arith, l.begun, slot.ordered);
        held = left-more slot ys same put l.held;
        less = IfSome_then rest l.less (λ r h. omega (arith, slot.ordered));
        long = l.long;
      }

  -- or all but a part of it is, and then nothing is left of those before: two parts longer than half are too many
  module _ (once : b ≤ 2 * half + 1) where
    free : {r : Option Rest} (len : ℕ) → half < len → len ≤ b - a → Left src total a now r → IfSome r (λ (q : Rest). half < q.len)
        → (k : ℕ) → k < a → get_or now k 0 ≡ get_or total k 0
    free len long fits (whole w) _ = w
    free len long fits (but p) h = absurd (omega (arith, p.within))

    stand_left : {hole : Option Rest} → Left src P (length P) ys hole → IfSome hole (λ (r : Rest). half < r.len)
        → PartLoop src total half b (placed a b now ys) (option_or (offset hole a) rest)
    stand_left (whole put) _ = stand_whole put
    stand_left (but {rest = hole} p) long =
        record {
          begun = omega (arith, l.begun, slot.ordered);
          held =
              left_inner slot ys same b (le_refl b)
              (λ k lt o. ⊎_elim (free hole.len long (omega (arith, p.within, slot.size)) l.held l.long k) (λ h. absurd (omega arith)) o)
              (but p);
          less = omega (arith, p.within, slot.size, slot.ordered, l.begun);
          long = long;
        }

    -- what is left then is what is there of the two
    pub stand_next : {hole moved rest' : Option Rest} → PartsDone src P half ys hole → moved ≡ offset hole a → rest' ≡ option_or moved rest
        → PartLoop src total half b (placed a b now ys) rest'
    stand_next w em er =
        subst (λ (r : Option Rest). PartLoop src total half b (placed a b now ys) r) (sym (er ∙ ap (λ (m : Option Rest). option_or m rest) em))
        (stand_left w.left w.long)
