-- Laws of appending to a text.
-- Assumes nothing.
use Rattle.std.proofs.Common.{◌≡◌, refl, sym, ap, ◌∙◌, List, [], ◌∷◌, ◌++◌, ℕ, suc, ◌+◌, ◌≤◌, length, set, length-append, drop, add-zero, zero-add, add-suc, suc-add, add_assoc, arith}
use borrow.Rule.Slice.PartMut.{put_mid}
use lib.Seq.{length-sets}
use Rattle.std.proofs.lemmas.Grind.{common_steps}
use Rattle.std.proofs.lemmas.List.Edits.{sets, sets-eq}
use Rattle.digits.specs.declared.Text.{Text}
use Rattle.buffer.specs.Buffer.{over}
use Rattle.digits.specs.Appending.{append}
use Rattle.digits.proofs.Digits.{decimal-last, decimal-more}

sets-append : (l : List ℕ) (i : ℕ) (xs ys : List ℕ) → sets (sets l i xs) (i + length xs) ys ≡ sets l i (xs ++ ys)
sets-append l i [] ys = ap (λ (k : ℕ). sets l k ys) (add-zero i)
sets-append l i (x ∷ xs) ys =
    ap (λ (k : ℕ). sets (sets (set l i x) (suc i) xs) k ys) (add-suc i (length xs) ∙ sym (suc-add i (length xs))) ∙ sets-append (set l i x) (suc i) xs ys

pub put_mid-sets : (l : List ℕ) (i k : ℕ) (xs ys : List ℕ) → ys ≡ xs → k ≡ length xs → i + length xs ≤ length l → put_mid i k l ys ≡ sets l i xs
put_mid-sets l i k xs ys e n room = grind (arith, common_steps, sets-eq xs l i room)

module _ (t : Text) where
  pub append_append : (xs ys : List ℕ) → append (append t xs) ys ≡ append t (xs ++ ys)
  unfolding append
  append_append xs ys = simp (sets-append, length-append, add_assoc)

  pub append-none : append t [] ≡ t
  unfolding append
  append-none = simp add-zero

  pub len-append : (bs : List ℕ) → (append t bs).len ≡ t.len + length bs
  unfolding append
  len-append bs = refl

  pub length_buf-append : (bs : List ℕ) → length (append t bs).buf.now ≡ length t.buf.now
  unfolding append
  length_buf-append bs = length-sets t.buf.now t.len bs

  pub name-append : (bs : List ℕ) → (append t bs).buf.ghost_name ≡ t.buf.ghost_name
  unfolding append
  name-append bs = refl

  -- what is appended to no text is all of it
  pub now-append : (bs : List ℕ) → t.len ≡ 0 → length bs ≤ length t.buf.now → (append t bs).buf.now ≡ over bs t.buf.now
  unfolding append
  now-append bs none room = rw none (sets-eq bs t.buf.now 0 (omega arith) ∙ ap (λ (k : ℕ). bs ++ drop k t.buf.now) (zero-add (length bs)))

pub ruleset appending = (append_append, append-none, len-append, name-append, length_buf-append, length-append)

pub ruleset appending_decimal = (appending, decimal-last, decimal-more)
