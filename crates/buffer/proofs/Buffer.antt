-- A buffer that is written from its start: what is written so far, what is still to come, and the untouched rest.
--     start     nothing is written yet
--     store     one element is stored at the place reached
--     lend      the rest of the buffer is lent to a function that puts bs at its start
--     begun     the whole buffer was lent to a function that put bs at its start
--     rebase    the buffer as it is now in the place of the one before; `chain` undoes it
--     finish    all is written
-- Assumes nothing.
use mathlib.Core.Path.{◌≡◌, refl, sym, ap, ap₂, ◌∙◌, subst, subst₂}
use mathlib.Core.List.{List, [], ◌∷◌, ◌++◌, append-nil, append_assoc}
use Prim.Native.Nat.{ℕ, ◌+◌, ◌-◌, ◌≤◌, ◌<◌}
use native.Mathlib.Nat.{le_refl, add-zero}
use native.Mathlib.Numerals.{add-one}
use native.Mathlib.Omega.{arith}
use lib.ListN.{length, take, drop, set, length-set, length-append, length-drop, take-append-drop, drop_of_length-le}
use Rattle.buffer.specs.Buffer.{over, with_part, Filled}
use lib.Seq.{take-suc-set, append_snoc, length-take-le, take-append-add, drop-append-add, take-append_seam, drop-append_seam, drop-drop, drop-set-lt, take_all}

-- the part of a buffer from `at` on, and the buffer once the part is back at the list ys: what a loan of `&mut b[at..]` gives
abbrev pub part-from : {A : Type 0} → ℕ → List A → List A
part-from at l = take (length l - at) (drop at l)

abbrev pub back : {A : Type 0} → ℕ → List A → List A → List A
back at l ys = with_part at (length l - at) ys l

-- `now` is `before` with the first `at` elements of `total` written; `rest` is what is left of `total`
pub record Written {A : Type 0} (total before rest now : List A) (at : ℕ) : Type 0 where
  pub kept : length now ≡ length before
  pub room : length total ≤ length before
  pub within : at + length rest ≡ length total
  pub done : take at now ++ rest ≡ total
  pub same : drop at now ≡ drop at before

add_sub : (i at : ℕ) → i ≤ at → i + (at - i) ≡ at
add_sub i at le = omega arith

module _ {A : Type 0} where
  pub start : (total b : List A) → length total ≤ length b → Written total b total b 0
  start total b room = record { kept = refl; room = room; within = omega arith; done = refl; same = refl }

  -- drop goes on from where it stopped
  drop_more : (l m : List A) (i j : ℕ) → drop i l ≡ drop i m → drop (i + j) l ≡ drop (i + j) m
  drop_more l m i j e = sym (drop-drop j i l) ∙ ap (drop j) e ∙ drop-drop j i m

  pub store : {total b rest now : List A} {at : ℕ} {x : A} → Written total b (x ∷ rest) now at → Written total b rest (set now at x) (at + 1)
  store {total} {b} {rest} {now} {at} {x} w =
      let lt : at < length now = omega (arith, w.within, w.room, w.kept) in
      record {
        kept = length-set now at x ∙ w.kept;
        room = w.room;
        within = omega (arith, w.within);
        done = ap (λ (n : ℕ). take n (set now at x) ++ rest) (add-one at) ∙ ap (λ l. l ++ rest) (take-suc-set now at x lt) ∙ append_snoc (take at now) x rest ∙ w.done;
        same = drop-set-lt (at + 1) now at x (omega arith) ∙ drop_more now b at 1 w.same;
      }

  -- the place reached lies in the buffer
  pub at_room : {total b rest now : List A} {at : ℕ} → Written total b rest now at → at ≤ length now
  at_room w = omega (arith, w.within, w.room, w.kept)

  pub part-all : (at : ℕ) (l : List A) → part-from at l ≡ drop at l
  part-all at l = take_all (length l - at) (drop at l) (simp length-drop (le_refl (length l - at)))

  pub back_all : (at : ℕ) (l ys : List A) → back at l ys ≡ take at l ++ ys
  back_all at l ys = ap (λ r. take at l ++ (ys ++ r)) (drop_of_length-le (drop at l) {i = length l - at} (simp length-drop (le_refl (length l - at)))) ∙ ap (λ r. take at l ++ r) (append-nil ys)

  -- the rest of the buffer is lent to a function that puts bs at its start
  module _ {total b now : List A} {at : ℕ} (bs rest : List A) (w : Written total b (bs ++ rest) now at) where
    module _ {ys : List A} (put : ys ≡ over bs (part-from at now)) where
      new_is : back at now ys ≡ take at now ++ (bs ++ drop (length bs) (drop at now))
      new_is = back_all at now ys ∙ ap (λ l. take at now ++ l) (put ∙ ap (over bs) (part-all at now))

      new_take : take (at + length bs) (back at now ys) ≡ take at now ++ bs
      new_take =
          ap (take (at + length bs)) new_is
          ∙ ap (λ (n : ℕ). take (n + length bs) (take at now ++ (bs ++ drop (length bs) (drop at now)))) (sym (length-take-le at now (at_room w)))
          ∙ take-append-add (take at now) (bs ++ drop (length bs) (drop at now)) (length bs)
          ∙ ap (λ l. take at now ++ l) (take-append_seam bs (drop (length bs) (drop at now)))

      new_drop : drop (at + length bs) (back at now ys) ≡ drop (length bs) (drop at now)
      new_drop =
          ap (drop (at + length bs)) new_is
          ∙ ap (λ (n : ℕ). drop (n + length bs) (take at now ++ (bs ++ drop (length bs) (drop at now)))) (sym (length-take-le at now (at_room w)))
          ∙ drop-append-add (take at now) (bs ++ drop (length bs) (drop at now)) (length bs)
          ∙ drop-append_seam bs (drop (length bs) (drop at now))

      new_length : length (back at now ys) ≡ length now
      new_length =
          ap length new_is
          ∙ simp (length-append, length-drop, length-take-le at now (at_room w))
          (omega (arith, w.within, w.room, w.kept, length-append bs rest))

      lent : Written total b rest (back at now ys) (at + length bs)
      lent =
          record {
            kept = new_length ∙ w.kept;
            room = w.room;
            within = omega (arith, w.within, length-append bs rest);
            done = ap (λ l. l ++ rest) new_take ∙ append_assoc (take at now) bs rest ∙ w.done;
            same = new_drop ∙ drop-drop (length bs) at now ∙ drop_more now b at (length bs) w.same;
          }

      -- with the returned length r, and what is left said anew
      pub lend : (r : ℕ) (rest' : List A) → r ≡ length bs → rest' ≡ rest → Written total b rest' (back at now ys) (at + r)
      lend r rest' er e = subst₂ (λ (n : ℕ) (l : List A). Written total b l (back at now ys) (at + n)) (sym er) (sym e) lent

  pub rebase : {total b rest now : List A} {at : ℕ} → Written total b rest now at → Written total now rest now at
  rebase w = record { kept = refl; room = omega (arith, w.room, w.kept); within = w.within; done = w.done; same = refl }

  -- what was written before the buffer b, then from b on
  pub chain : {total e r b rest now : List A} {i at : ℕ} → Written total e r b i → i ≤ at → Written total b rest now at → Written total e rest now at
  chain {e = e} {b = b} {i = i} {at = at} v le w =
      record {
        kept = w.kept ∙ v.kept;
        room = v.room;
        within = w.within;
        done = w.done;
        same = w.same ∙ subst (λ (n : ℕ). drop n b ≡ drop n e) (add_sub i at le) (drop_more b e i (at - i) v.same);
      }

  -- all is written
  done_at : {total b now : List A} {at : ℕ} → Written total b [] now at → at ≡ length total
  done_at {at = at} w = sym (add-zero at) ∙ w.within

  done-is : {total b now : List A} {at : ℕ} → Written total b [] now at → now ≡ over total b
  done-is {total} {b} {now} {at} w =
      sym (take-append-drop at now)
      ∙ ap (λ l. l ++ drop at now) (sym (append-nil (take at now)) ∙ w.done)
      ∙ ap (λ l. total ++ l) (w.same ∙ ap (λ (k : ℕ). drop k b) (done_at w))

pub finish : {total b now : List ℕ} {at : ℕ} → Written total b [] now at → Filled total at b now
finish w = record { count = done_at w; bytes = done-is w }

-- the whole buffer was lent to a function that put the first part
pub begun : {bs old now : List ℕ} {r : ℕ} (rest : List ℕ) → length (bs ++ rest) ≤ length old → Filled bs r old now → Written (bs ++ rest) old rest now r
begun {bs} {old} {now} {r} rest room w =
    let both = length-append bs rest in
    record {
      kept = ap length w.bytes ∙ length-append bs (drop (length bs) old) ∙ omega (arith, length-drop (length bs) old);
      room = room;
      within = omega (arith, w.count);
      done = ap (λ (l : List ℕ). l ++ rest) (ap₂ take w.count w.bytes ∙ take-append_seam bs (drop (length bs) old));
      same = ap₂ drop w.count w.bytes ∙ drop-append_seam bs (drop (length bs) old) ∙ ap (λ (k : ℕ). drop k old) (sym w.count);
    }

-- what is left of the buffer has room for the next part
pub next-room : {total old now : List ℕ} {at : ℕ} (bs rest : List ℕ) → Written total old (bs ++ rest) now at → length bs ≤ length (part-from at now)
next-room {now = now} {at = at} bs rest w = rw (part-all at now, length-drop) (omega (arith, length-append bs rest, w.kept, w.room, w.within))
