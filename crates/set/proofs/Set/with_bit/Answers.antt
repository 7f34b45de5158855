-- `set::Set::with_bit` meets its contract. Assumes nothing.
use mathlib.Core.Path.{◌≡◌, refl}
use mathlib.Core.Bool.{◌&&◌, ◌||◌}
use lib.ListN.{length}
use native.Mathlib.Omega.{arith}
use lib.Dec.{eqb}
use Rattle.set.proofs.Sets.{changed}
use borrow.Author.Rules.{rules}
use Rattle.set.proofs.Set.with_bit.Goals as goal

pub returns : goal.returns
returns c =
    let a = c.args in
    let n : length a.self.words ≡ 2 = search rules in
    changed (λ e x. (e && eqb a.b 1) || x) (λ x. refl) a.self.words a.t c.with_bit-new.result (omega arith) (omega arith) c.with_bit-new.ensures
