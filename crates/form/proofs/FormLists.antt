-- A part of a list by its places, and numbers that never fall.
-- Assumes nothing.
use mathlib.Core.Path.{◌≡◌, refl, ap, ◌∙◌}
use mathlib.Core.List.{List, ◌∷◌}
use Prim.Native.Nat.{ℕ, zero, suc, ◌+◌, ◌-◌, ◌≤◌, ◌<◌}
use native.Mathlib.Nat.{add-zero}
use native.Mathlib.Numerals.{add-one}
use native.Mathlib.Omega.{arith}
use native.Mathlib.Decide.{dec_le}
use lib.ListN.{length, get_or, take, drop}
use lib.Seq.{drop-cons, get_or-take, get_or-drop}
use Rattle.simulation.specs.Sum.{below}
use Rattle.form.specs.Form.{form_size}
use Rattle.form.specs.Examples.{form_at}

-- the numbers of a form that begins at a place of a list are those of the list from there on
pub form_read : (numbers : List ℕ) (place i k : ℕ) → place + i ≡ k → i < form_size → get_or (form_at numbers place) i 0 ≡ get_or numbers k 0
form_read numbers place i k e lt = get_or-take form_size (drop place numbers) i 0 lt ∙ get_or-drop place numbers i 0 ∙ ap (λ (p : ℕ). get_or numbers p 0) e

pub part-below : (f : List ℕ) (p a n : ℕ) → p + a + n ≤ length f → take n (drop (p + a) f) ≡ below a n (λ e. get_or f (p + e) 0)
unfolding below
part-below f p a zero h = refl
part-below f p a (suc n) h =
    let b : p + a < length f = omega arith in
    let e : suc (p + a) ≡ p + suc a = omega arith in
    ap (take (suc n)) (drop-cons f (p + a) 0 b)
    ∙ ap (λ (l : List ℕ). get_or f (p + a) 0 ∷ l) (ap (λ (k : ℕ). take n (drop k f)) e ∙ part-below f p (suc a) n (omega arith))

-- numbers that do not fall at any step do not fall over several
ascends_by : (g : ℕ → ℕ) (n : ℕ) → ((i : ℕ) → i < n → g i ≤ g (i + 1)) → (a d : ℕ) → a + d ≤ n → g a ≤ g (a + d)
ascends_by g n h a zero b = let e : g (a + 0) ≡ g a = ap g (add-zero a) in omega arith
ascends_by g n h a (suc d) b =
    let e : g (a + suc d) ≡ g (a + d + 1) = ap g (omega arith) in
    omega (arith, ascends_by g n h a d (omega arith), h (a + d) (omega arith))

pub ascends : (g : ℕ → ℕ) (n : ℕ) → ((i : ℕ) → i < n → g i ≤ g (i + 1)) → (a b : ℕ) → a ≤ b → b ≤ n → g a ≤ g b
ascends g n h a b l m =
    let e : g (a + (b - a)) ≡ g b = ap g (omega arith) in
    omega (arith, ascends_by g n h a (b - a) (omega arith))

-- the step at which a number is passed
pub record Crossing (g : ℕ → ℕ) (n j : ℕ) : Type 0 where
  pub step : ℕ
  pub within : step < n
  pub from : g step ≤ j
  pub to : j < g (step + 1)

pub crossed_at : (g : ℕ → ℕ) (n j : ℕ) → g 0 ≤ j → j < g n → Crossing g n j
crossed_at g zero j a b = absurd (omega arith)
crossed_at g (suc n) j a b = go (dec_le (g n) j) (crossed_at g n j a)
  where
    go : Dec (g n ≤ j) → (j < g n → Crossing g n j) → Crossing g (suc n) j
    go (yes l) later = record { step = n; within = omega arith; from = l; to = rw (add-one n) b }
    go (no l) later =
        let p = later (omega arith) in
        record { step = p.step; within = omega (arith, p.within); from = p.from; to = p.to }
