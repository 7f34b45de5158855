-- `loading::put_counts` meets its contract: the layout has the counts and places of the bytes, and the parts are written in ascending order.
-- Assumes nothing.
use mathlib.Core.Path.{◌≡◌, ◌∙◌}
use lib.ListN.{length}
use native.Mathlib.Omega.{arith}
use Rattle.loading.proofs.FillLaws.{parts_of, counts_by}
use Rattle.loading.proofs.put_counts.Goals as goal

pub overflow_cast-t : goal.overflow_cast-t
overflow_cast-t c = let p = parts_of c.requires in omega arith

pub overflow_cast-t-2 : goal.overflow_cast-t-2
overflow_cast-t-2 c = let p = parts_of c.requires in omega arith

pub put_sums-requires : goal.put_sums-requires
put_sums-requires c =
    let p = parts_of c.requires in
    let long : length c.put-2.new.form ≡ length c.args.form.now = c.put-2.ensures.long ∙ c.put.ensures.long in
    (record { bytes = λ i l. omega arith; room = omega arith }, omega arith, omega arith)

pub returns : goal.returns
returns c =
    counts_by _ _ (parts_of c.requires) c.put.ensures c.put-2.ensures c.put_sums.ensures
