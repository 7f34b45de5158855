-- `witness::show_tree` meets its contract.
-- Assumes nothing.
use Rattle.std.proofs.lemmas.Result.{err_from_is_err_and}
use Rattle.witness.proofs.Showing.{tree-refused, tree-shown}
use Rattle.witness.proofs.show_tree.Goals as goal

pub returns-in_err-len : goal.returns-in_err-len
returns-in_err-len c =
    let p = err_from_is_err_and c.from_residual.result c.from_residual.ensures.1 in
    rw (p.1, p.2) (tree-refused c.in_err-len.ensures)

pub returns : goal.returns
returns c = tree-shown c.in_ok-len.ensures c.with_written.ensures
