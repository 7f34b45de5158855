-- Finite sums, and tests over the numbers below a bound and over lists.
-- Assumes nothing.
use Rattle.std.specs.Prelude.{Bool, true, false, cond, ◌&&◌, ◌||◌, List, [], ◌∷◌, ◌++◌, ℕ, zero, suc, ◌+◌}

-- f 0 + … + f (n - 1)
unfoldable pub sum : ℕ → (ℕ → ℕ) → ℕ
sum zero f = 0
sum (suc n) f = f n + sum n f

-- f holds at some number below n
unfoldable pub any : ℕ → (ℕ → Bool) → Bool
any zero f = false
any (suc n) f = f n || any n f

abbrev pub when : Bool → ℕ → ℕ
when b n = cond b n 0

unfoldable pub all_of {ℓ} : {A : Type ℓ} → (A → Bool) → List A → Bool
all_of f [] = true
all_of f (x ∷ xs) = f x && all_of f xs

unfoldable pub any_of {ℓ} : {A : Type ℓ} → (A → Bool) → List A → Bool
any_of f [] = false
any_of f (x ∷ xs) = f x || any_of f xs

-- the first element that passes, or the other value
unfoldable pub first_of {ℓ} : {A : Type ℓ} → (A → Bool) → A → List A → A
first_of f d [] = d
first_of f d (x ∷ xs) = cond (f x) x (first_of f d xs)

-- f i ∷ … ∷ f (i + n - 1)
unfoldable pub below {ℓ} : {A : Type ℓ} → ℕ → ℕ → (ℕ → A) → List A
below i zero f = []
below i (suc n) f = f i ∷ below (suc i) n f

-- the lists one after the other
unfoldable pub concat {ℓ} : {A : Type ℓ} → List (List A) → List A
concat [] = []
concat (x ∷ xs) = x ++ concat xs
