-- `pod::check` meets its contract: what reading each table told, and then what the comparison of the two forms answers.
-- Assumes nothing.
use Rattle.form.proofs.Known.{both_loaded}
use Rattle.pod.proofs.Reading.{read_first_refused, read_second_refused, read_compared, loaded_by, forms_compared}
use Rattle.pod.proofs.check.Goals as goal

pub returns-in-Err : goal.returns-in-Err
returns-in-Err c = read_first_refused _ _ _ _ _ c.in-Err.ensures (rw (← c.number.ensures) c.refused.ensures)

pub returns-in-Err-load : goal.returns-in-Err-load
returns-in-Err-load c = read_second_refused _ _ _ _ _ c.in_default.ensures c.in-Err-load.ensures (rw (← c.number-in-Err-load.ensures) c.refused-in-Err-load.ensures)

pub new-tables-requires : goal.new-tables-requires
new-tables-requires c = (loaded_by c.in_default.ensures, loaded_by c.in_default-load.ensures)

pub compare_tables-requires : goal.compare_tables-requires
compare_tables-requires c = both_loaded c.new-tables.result

pub returns : goal.returns
returns c =
    let t = c.new-tables.ensures in
    read_compared _ _ _ _ _ c.in_default.ensures c.in_default-load.ensures (forms_compared c.new-tables.result t.first t.second c.compare_tables.ensures)
