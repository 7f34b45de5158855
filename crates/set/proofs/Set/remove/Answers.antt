-- `set::Set::remove` meets its contract. Assumes nothing.
use mathlib.Core.Path.{◌≡◌}
use mathlib.Core.Bool.{not, ◌&&◌, and-true}
use lib.ListN.{length}
use native.Mathlib.Omega.{arith}
use Rattle.set.proofs.Sets.{changed}
use borrow.Author.Rules.{rules}
use Rattle.set.proofs.Set.remove.Goals as goal

pub returns : goal.returns
returns c =
    let a = c.args in
    let n : length a.self.words ≡ 2 = search rules in
    changed (λ e b. b && not e) and-true a.self.words a.t c.remove-new.result (omega arith) (omega arith) c.remove-new.ensures
