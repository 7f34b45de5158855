-- Forms in one list, computed: one between other numbers, and the second of two. The forms of two tables.
-- Assumes nothing.
use Rattle.std.specs.Prelude.{◌≡◌, refl, List, [], ◌∷◌, ◌++◌, ℕ, replicate, take, drop}
use Rattle.form.specs.declared.form.Form.{Form}
use Rattle.form.specs.Form.{form_size}
use Rattle.form.specs.Tables.{first_form, second_form}

-- the form that begins at a place of a list
abbrev pub form_at : (numbers : List ℕ) (place : ℕ) → List ℕ
form_at numbers place = take form_size (drop place numbers)

-- a form of one number
abbrev uniform : ℕ → List ℕ
uniform v = replicate form_size v

pub form_example : (form_at (7 ∷ uniform 1 ++ (7 ∷ [])) 1 ≡ uniform 1) × (form_at (uniform 1 ++ uniform 2) form_size ≡ uniform 2)
form_example = (refl, refl)

-- two tables made of any two forms: the numbers of the one are the first form, those of the other the second
pub tables_example : (f g : Form)
    → (first_form (record { first = f; second = g }) ≡ f.numbers.now) × (second_form (record { first = f; second = g }) ≡ g.numbers.now)
tables_example f g = (refl, refl)
