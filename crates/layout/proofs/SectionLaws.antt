-- A section's refusal, by the tests in their order, and what holds where there is none.
-- Assumes nothing.
use mathlib.Core.Path.{◌≡◌, refl, sym, ◌∙◌, ap, ap₂}
use mathlib.Core.Bool.{Bool, true, false}
use Prim.Native.Nat.{ℕ, zero, suc, ◌+◌, ◌≤◌, ◌<◌}
use native.Mathlib.Nat.{not-suc-le-zero, zero-add, add-zero, le_of_suc-le-suc}
use native.Mathlib.Omega.{arith}
use Rattle.layout.specs.Bytes.{◌then◌, refuse◌unless◌, first, section}

pub then_zero : {f : ℕ} (g : ℕ) → f ≡ 0 → f then g ≡ g
unfolding ◌then◌
then_zero g e = rw e

pub then_stop : {f : ℕ} (g k : ℕ) → f ≡ suc k → f then g ≡ suc k
unfolding ◌then◌
then_stop g k e = rw e

-- a first refusal of 0 is none, and then the second
pub then_parts : (f g : ℕ) → f then g ≡ 0 → (f ≡ 0) × (g ≡ 0)
unfolding ◌then◌
then_parts zero g e = (refl, e)
then_parts (suc f) g e = absurd (omega arith)

-- what was not refused holds
pub accepted-holds : (k : ℕ) (t : Bool) → refuse (suc k) unless t ≡ 0 → t ≡ true
unfolding refuse◌unless◌
accepted-holds k true e = refl
accepted-holds k false e = absurd (omega arith)

-- the first refusal of items is 0 exactly if every item passes
first_pass : (i n : ℕ) (f : ℕ → ℕ) → ((k : ℕ) → k < n → f (i + k) ≡ 0) → first i n f ≡ 0
unfolding first
first_pass i zero f h = refl
first_pass i (suc n) f h =
    let e : f i ≡ 0 = ap f (sym (add-zero i)) ∙ h 0 (omega arith) in
    then_zero (first (suc i) n f) e ∙ first_pass (suc i) n f (λ k l. let q : suc i + k ≡ i + suc k = omega arith in ap f q ∙ h (suc k) (omega arith))

first-none : (i n : ℕ) (f : ℕ → ℕ) → first i n f ≡ 0 → (k : ℕ) → k < n → f (i + k) ≡ 0
unfolding first
first-none i zero f e k l = absurd (not-suc-le-zero l)
first-none i (suc n) f e zero l = rw (add-zero i) (then_parts (f i) (first (suc i) n f) e).0
first-none i (suc n) f e (suc k) l =
    let q : suc i + k ≡ i + suc k = omega arith in
    ap f (sym q) ∙ first-none (suc i) n f (then_parts (f i) (first (suc i) n f) e).1 k (le_of_suc-le-suc l)

pub none-at : (n : ℕ) (f : ℕ → ℕ) → first 0 n f ≡ 0 → (k : ℕ) → k < n → f k ≡ 0
none-at n f e k l = ap f (sym (zero-add k)) ∙ first-none 0 n f e k l

pub pass_all : (n : ℕ) (f : ℕ → ℕ) → ((k : ℕ) → k < n → f k ≡ 0) → first 0 n f ≡ 0
pass_all n f h = first_pass 0 n f (λ k l. ap f (zero-add k) ∙ h k l)

pub first_ext : (i n : ℕ) (f g : ℕ → ℕ) → ((k : ℕ) → i ≤ k → k < i + n → f k ≡ g k) → first i n f ≡ first i n g
unfolding first
first_ext i zero f g h = refl
first_ext i (suc n) f g h = ap₂ ◌then◌ (h i (omega arith) (omega arith)) (first_ext (suc i) n f g (λ k a b. h k (omega arith) (omega arith)))

module _ (present : Bool) (rule : ℕ) (whole : Bool) (items : ℕ) where
  pub section-end : present ≡ false → section present rule whole items ≡ 1
  unfolding section
  section-end h = rw h

  pub section_rule : (k : ℕ) → present ≡ true → rule ≡ suc k → section present rule whole items ≡ suc k
  unfolding section
  section_rule k p r = rw (p, r)

  pub section-short : present ≡ true → rule ≡ 0 → whole ≡ false → section present rule whole items ≡ 1
  unfolding section
  section-short p r w = rw (p, r, w)

  pub section_items : present ≡ true → rule ≡ 0 → whole ≡ true → section present rule whole items ≡ items
  unfolding section
  section_items p r w = rw (p, r, w)

  -- a section whose bytes end inside it or before its count
  pub section-broken : (present ≡ true → (rule ≡ 0) × (whole ≡ false)) → section present rule whole items ≡ 1
  section-broken h = go present refl
    where
      go : (b : Bool) → present ≡ b → section present rule whole items ≡ 1
      go true p = section-short p (h p).0 (h p).1
      go false p = section-end p

  -- a section that was not refused
  pub record Whole : Type 0 where
    pub count_present : present ≡ true
    pub rule_kept : rule ≡ 0
    pub all_present : whole ≡ true
    pub items_pass : items ≡ 0

  pub section-whole : section present rule whole items ≡ 0 → Whole
  unfolding section
  section-whole e =
      let a = then_parts (refuse 1 unless present then rule then refuse 1 unless whole) items e in
      let b = then_parts (refuse 1 unless present then rule) (refuse 1 unless whole) a.0 in
      let d = then_parts (refuse 1 unless present) rule b.0 in
      record { count_present = accepted-holds 0 present d.0; rule_kept = d.1; all_present = accepted-holds 0 whole b.1; items_pass = a.1 }

-- a section up to its items decides, unless it passes
pub section_past : (present : Bool) (rule : ℕ) (whole : Bool) (items : ℕ) → section present rule whole 0 ≡ 0 → section present rule whole items ≡ items
section_past present rule whole items e =
    let w = section-whole present rule whole 0 e in
    section_items present rule whole items w.count_present w.rule_kept w.all_present

pub section-before : (present : Bool) (rule : ℕ) (whole : Bool) (items : ℕ) {k : ℕ} → section present rule whole 0 ≡ k → (k ≡ 0 → ⊥) → section present rule whole items ≡ k
unfolding section refuse◌unless◌ ◌then◌
section-before false rule whole items e ne = e
section-before true (suc r) whole items e ne = e
section-before true zero false items e ne = e
section-before true zero true items e ne = absurd (ne (sym e))
