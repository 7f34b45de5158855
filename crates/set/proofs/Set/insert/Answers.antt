-- `set::Set::insert` meets its contract. Assumes nothing.
use mathlib.Core.Path.{◌≡◌, refl}
use mathlib.Core.Bool.{◌||◌}
use lib.ListN.{length}
use native.Mathlib.Omega.{arith}
use Rattle.set.proofs.Sets.{changed}
use borrow.Author.Rules.{rules}
use Rattle.set.proofs.Set.insert.Goals as goal

pub returns : goal.returns
returns c =
    let a = c.args in
    let n : length a.self.words ≡ 2 = search rules in
    changed (λ e b. e || b) (λ b. refl) a.self.words a.t c.insert-new.result (omega arith) (omega arith) c.insert-new.ensures
