-- Laws of a text that is written piece by piece.
-- Assumes nothing.
use Rattle.std.proofs.Common.{◌≡◌, refl, sym, ap, ap₂, ◌∙◌, List, [], ◌++◌, ℕ, zero, suc, ◌+◌, ◌-◌, ◌≤◌, ◌<◌, length, length-append, length-drop, append-nil, take, drop, get_or, add-one, arith}
use native.Mathlib.Nat.{lt_of_not-le}
use native.Mathlib.Decide.{dec_lt}
use Rattle.std.specs.List.{flat_map}
use Rattle.std.proofs.lemmas.Grind.{common_steps}
use Rattle.std.proofs.lemmas.List.{get_or-drop}
use Rattle.std.proofs.lemmas.List.Folds.{length-flat_map-take}
use Rattle.digits.specs.Digits.{labelled}
use Rattle.digits.proofs.Appending.{appending, now-append}
use Rattle.report.proofs.Bounds.{refused_short, report_short}
use Rattle.report.specs.Text.{space, pieces, ranks_text}

pub pieces-none : (f : ℕ → List ℕ) → pieces f 0 ≡ []
unfolding pieces
pieces-none f = refl

pub pieces-next : (f : ℕ → List ℕ) (i : ℕ) → pieces f (i + 1) ≡ pieces f i ++ f i
unfolding pieces
pieces-next f i = ap (pieces f) (add-one i)

-- each piece lies within all of them
pub pieces-within : (f : ℕ → List ℕ) (i n : ℕ) → i < n → length (pieces f i) + length (f i) ≤ length (pieces f n)
unfolding pieces
pieces-within f i zero lt = absurd (omega arith)
pieces-within f i (suc n) lt =
    let both : length (pieces f n ++ f n) ≡ length (pieces f n) + length (f n) = length-append (pieces f n) (f n) in
    elim (dec_lt i n) [
      | yes below ↦ omega (arith, pieces-within f i n below)
      | no last ↦ let e : i ≡ n = omega (arith, lt_of_not-le last) in rw e (omega (arith, both))
    ]

-- the elements of a list, one after the other
pub flat-next : (f : ℕ → List ℕ) (xs : List ℕ) (i : ℕ) → i < length xs → flat_map f (take (i + 1) xs) ≡ flat_map f (take i xs) ++ f (get_or xs i 0)
flat-next f xs i lt = grind (arith, common_steps)

pub flat-within : (f : ℕ → List ℕ) (xs : List ℕ) (i : ℕ) → i < length xs → length (flat_map f (take i xs)) + length (f (get_or xs i 0)) ≤ length (flat_map f xs)
flat-within f xs i lt = length-flat_map-take f xs i 0 lt

-- pieces that are made of the elements of a list from a place on
pub pieces-flat : (g : ℕ → List ℕ) (xs : List ℕ) (from n : ℕ) → from + n ≤ length xs → pieces (λ i. g (get_or xs (from + i) 0)) n ≡ flat_map g (take n (drop from xs))
unfolding pieces
pieces-flat g xs from zero le = refl
pieces-flat g xs from (suc n) le =
    let lt : n < length (drop from xs) = simp length-drop (omega arith) in
    ap₂ (λ (a b : List ℕ). a ++ b) (pieces-flat g xs from n (omega arith)) (ap g (sym (get_or-drop from xs n 0)))
    ∙ sym (flat-next g (drop from xs) n lt) ∙ ap (λ (k : ℕ). flat_map g (take k (drop from xs))) (add-one n)

pub ranks_text-flat : (ranks : List ℕ) (from q : ℕ) → from + q ≤ length ranks → ranks_text ranks from q ≡ flat_map (labelled space) (take q (drop from ranks))
unfolding ranks_text
ranks_text-flat ranks from q le = pieces-flat (labelled space) ranks from q le

pub ruleset writing = (appending, append-nil, pieces-none, pieces-next, pieces-within, flat-next, flat-within, ranks_text-flat)

pub ruleset filling = (now-append, refused_short, report_short, writing)
