-- Lists of the values of a function, and lists laid one after the other: elements by their places.
-- Assumes nothing.
use mathlib.Core.Path.{◌≡◌, refl, sym, ◌∙◌, ap, ap₂}
use mathlib.Core.List.{List, [], ◌∷◌, ◌++◌, map, map-append}
use Prim.Native.Nat.{ℕ, zero, suc, ◌+◌, ◌*◌, ◌-◌, ◌≤◌, ◌<◌}
use native.Mathlib.Nat.{not-suc-le-zero, zero-add, add-zero, le_of_suc-le-suc}
use native.Mathlib.Decide.{dec_lt}
use native.Mathlib.Omega.{arith}
use lib.ListN.{length, get_or, length-append, get_or-append}
use lib.Seq.{ext_get_or, get_or-append-add}
use Rattle.simulation.specs.Sum.{below, sum, concat}
use Rattle.simulation.proofs.Finite.Lists.{below_length}
use Rattle.simulation.proofs.Finite.Sums.{sum_first}

module _ {ℓ} {A : Type ℓ} where
  pub getD_below : (i n k : ℕ) (f : ℕ → A) (d : A) → k < n → get_or (below i n f) k d ≡ f (i + k)
  unfolding below
  getD_below i zero k f d l = absurd (not-suc-le-zero l)
  getD_below i (suc n) zero f d l = ap f (sym (add-zero i))
  getD_below i (suc n) (suc k) f d l =
      let e : suc i + k ≡ i + suc k = omega arith in
      getD_below (suc i) n k f d (le_of_suc-le-suc l) ∙ ap f e

  -- a list is the values of a function that gives its elements
  pub below-is : (d : A) (l : List A) (i n : ℕ) (f : ℕ → A) → n ≡ length l → ((k : ℕ) → k < n → f (i + k) ≡ get_or l k d) → below i n f ≡ l
  below-is d l i n f e h =
      let long = below_length f i n in
      ext_get_or d (below i n f) l (long ∙ e) (λ k m. let b : k < n = omega (arith, long) in getD_below i n k f d b ∙ h k b)

  pub below-append : (f : ℕ → A) (i m k : ℕ) → below i (m + k) f ≡ below i m f ++ below (i + m) k f
  unfolding below
  below-append f i zero k = rw (zero-add, add-zero)
  below-append f i (suc m) k =
      let e : suc m + k ≡ suc (m + k) = omega arith in
      let q : suc i + m ≡ i + suc m = omega arith in
      rw e (ap (λ (l : List A). f i ∷ l) (below-append f (suc i) m k ∙ ap (λ (x : ℕ). below (suc i) m f ++ below x k f) q))

  pub below_shift : (f : ℕ → A) (p i n : ℕ) → below i n (λ k. f (p + k)) ≡ below (p + i) n f
  unfolding below
  below_shift f p i zero = refl
  below_shift f p i (suc n) =
      let q : p + suc i ≡ suc (p + i) = omega arith in
      ap (λ (l : List A). f (p + i) ∷ l) (below_shift f p (suc i) n ∙ ap (λ (x : ℕ). below x n f) q)

  -- records of w elements each
  pub below_records : (f : ℕ → A) (w p i n : ℕ) (g : ℕ → List A) → ((j : ℕ) → i ≤ j → j < i + n → g j ≡ below (p + w * j) w f) → concat (below i n g) ≡ below (p + w * i) (w * n) f
  unfolding below concat
  below_records f w p i zero g h = let z : w * 0 ≡ 0 = omega arith in rw z
  below_records f w p i (suc n) g h =
      let later = below_records f w p (suc i) n g (λ j a b. h j (omega arith) (omega arith)) in
      let q : p + w * suc i ≡ p + w * i + w = omega arith in
      let r : w + w * n ≡ w * suc n = omega arith in
      ap₂ ◌++◌ (h i (omega arith) (omega arith)) (later ∙ ap (λ (x : ℕ). below x (w * n) f) q)
      ∙ sym (below-append f (p + w * i) w (w * n))
      ∙ ap (λ (x : ℕ). below (p + w * i) x f) r

  -- the length of each list
  abbrev pub sizes : List (List A) → ℕ → ℕ
  sizes ls i = length (get_or ls i [])

  pub length-concat : (ls : List (List A)) → length (concat ls) ≡ sum (length ls) (sizes ls)
  unfolding concat sum
  length-concat [] = refl
  length-concat (x ∷ xs) = length-append x (concat xs) ∙ ap (λ (n : ℕ). length x + n) (length-concat xs) ∙ sym (sum_first (length xs) (sizes (x ∷ xs)))

  -- none of the lists is longer than all
  pub size-most : (ls : List (List A)) (q : ℕ) → sizes ls q ≤ length (concat ls)
  unfolding concat
  size-most [] q = omega arith
  size-most (x ∷ xs) zero = omega (arith, length-append x (concat xs))
  size-most (x ∷ xs) (suc q) = omega (arith, length-append x (concat xs), size-most xs q)

  pub concat-at : (d : A) (ls : List (List A)) (q k : ℕ) → q < length ls → k < sizes ls q → get_or (concat ls) (sum q (sizes ls) + k) d ≡ get_or (get_or ls q []) k d
  unfolding concat sum
  concat-at d [] q k l m = absurd (not-suc-le-zero l)
  concat-at d (x ∷ xs) zero k l m = ap (λ (p : ℕ). get_or (x ++ concat xs) p d) (zero-add k) ∙ get_or-append x (concat xs) d k m
  concat-at d (x ∷ xs) (suc q) k l m =
      let first = sum_first q (sizes (x ∷ xs)) in
      let e : sum (suc q) (sizes (x ∷ xs)) + k ≡ length x + (sum q (sizes xs) + k) = omega arith in
      ap (λ (p : ℕ). get_or (x ++ concat xs) p d) e ∙ get_or-append-add x (concat xs) (sum q (sizes xs) + k) d ∙ concat-at d xs q k (le_of_suc-le-suc l) m

  -- each element of lists one after the other is an element of one of them
  pub record FromOneOf (d : A) (ls : List (List A)) (j : ℕ) : Type ℓ where
    pub place : ℕ
    pub within : ℕ
    pub place-below : place < length ls
    pub within-below : within < sizes ls place
    pub is : get_or (concat ls) j d ≡ get_or (get_or ls place []) within d

  pub concat_find : (d : A) (ls : List (List A)) (j : ℕ) → j < length (concat ls) → FromOneOf d ls j
  unfolding concat
  concat_find d [] j l = absurd (not-suc-le-zero l)
  concat_find d (x ∷ xs) j l = go (dec_lt j (length x)) (concat_find d xs)
    where
      go : Dec (j < length x) → ((i : ℕ) → i < length (concat xs) → FromOneOf d xs i) → FromOneOf d (x ∷ xs) j
      go (yes b) later = record { place = 0; within = j; place-below = omega arith; within-below = b; is = get_or-append x (concat xs) d j b }
      go (no b) later =
          let n = length-append x (concat xs) in
          let r = later (j - length x) (omega arith) in
          let e : j ≡ length x + (j - length x) = omega arith in
          let rest : get_or (x ++ concat xs) j d ≡ get_or (concat xs) (j - length x) d = ap (λ (p : ℕ). get_or (x ++ concat xs) p d) e ∙ get_or-append-add x (concat xs) (j - length x) d in
          record { place = suc r.place; within = r.within; place-below = omega (arith, r.place-below); within-below = r.within-below; is = rest ∙ r.is }

pub map_below {ℓ κ} : {A : Type ℓ} {B : Type κ} (g : A → B) (i n : ℕ) (f : ℕ → A) → map g (below i n f) ≡ below i n (λ k. g (f k))
unfolding below
map_below g i zero f = refl
map_below g i (suc n) f = ap (λ l. g (f i) ∷ l) (map_below g (suc i) n f)

pub map-concat {ℓ κ} : {A : Type ℓ} {B : Type κ} (g : A → B) (ls : List (List A)) → concat (map (map g) ls) ≡ map g (concat ls)
unfolding concat
map-concat g [] = refl
map-concat g (x ∷ xs) = ap (λ l. map g x ++ l) (map-concat g xs) ∙ sym (map-append g x (concat xs))

-- a list for each element of a list, and how long they are together
module _ {ℓ κ} {A : Type ℓ} {B : Type κ} (g : A → List B) where
  abbrev pub flat_length : List A → ℕ
  flat_length l = length (concat (map g l))

  pub flat_sum : (d : A) (l : List A) → flat_length l ≡ sum (length l) (λ k. length (g (get_or l k d)))
  unfolding concat sum
  flat_sum d [] = refl
  flat_sum d (x ∷ xs) =
      length-append (g x) (concat (map g xs)) ∙ ap (λ (n : ℕ). length (g x) + n) (flat_sum d xs) ∙ sym (sum_first (length xs) (λ k. length (g (get_or (x ∷ xs) k d))))

  flat_append : (l m : List A) → flat_length (l ++ m) ≡ flat_length l + flat_length m
  unfolding concat
  flat_append [] m = sym (zero-add (flat_length m))
  flat_append (x ∷ xs) m = omega (arith, length-append (g x) (concat (map g (xs ++ m))), length-append (g x) (concat (map g xs)), flat_append xs m)

  -- one of several lists has no more than all of them
  pub flat_most : (ls : List (List A)) (q : ℕ) → flat_length (get_or ls q []) ≤ flat_length (concat ls)
  unfolding concat
  flat_most [] q = omega arith
  flat_most (x ∷ xs) zero = omega (arith, flat_append x (concat xs))
  flat_most (x ∷ xs) (suc q) = omega (arith, flat_append x (concat xs), flat_most xs q)

-- shorter lists are shorter together
pub flat_le {ℓ κ} : {A : Type ℓ} {B : Type κ} (g h : A → List B) → ((x : A) → length (g x) ≤ length (h x)) → (l : List A) → flat_length g l ≤ flat_length h l
unfolding concat
flat_le g h le [] = omega arith
flat_le g h le (x ∷ xs) = omega (arith, length-append (g x) (concat (map g xs)), length-append (h x) (concat (map h xs)), le x, flat_le g h le xs)

-- records of w elements each, one for each element of a list
module _ {ℓ κ} {A : Type ℓ} {B : Type κ} (w : ℕ) (g : A → List B) (wide : (x : A) → length (g x) ≡ w) where
  pub length_records : (l : List A) → length (concat (map g l)) ≡ w * length l
  unfolding concat
  length_records [] = let z : 0 ≡ w * 0 = omega arith in z
  length_records (x ∷ xs) =
      let later = length_records xs in
      let both = length-append (g x) (concat (map g xs)) in
      let first = wide x in
      let r : w * suc (length xs) ≡ w + w * length xs = omega arith in
      omega arith

  pub records_at : (d : A) (e : B) (l : List A) (j i : ℕ) → j < length l → i < w → get_or (concat (map g l)) (w * j + i) e ≡ get_or (g (get_or l j d)) i e
  unfolding concat
  records_at d e [] j i l m = absurd (not-suc-le-zero l)
  records_at d e (x ∷ xs) zero i l m =
      let z : w * 0 + i ≡ i = omega arith in
      ap (λ (p : ℕ). get_or (g x ++ concat (map g xs)) p e) z ∙ get_or-append (g x) (concat (map g xs)) e i (omega (arith, wide x))
  records_at d e (x ∷ xs) (suc j) i l m =
      let first = wide x in
      let q : w * suc j + i ≡ length (g x) + (w * j + i) = omega arith in
      ap (λ (p : ℕ). get_or (g x ++ concat (map g xs)) p e) q ∙ get_or-append-add (g x) (concat (map g xs)) (w * j + i) e ∙ records_at d e xs j i (le_of_suc-le-suc l) m
