-- The row and the column by which each row below most-states was reached.
-- Assumes nothing.
use Rattle.std.specs.Prelude.{ℕ, get_or}
use Rattle.search.specs.declared.Link.{Link}
use Rattle.search.specs.declared.Links.{Links}

abbrev pub link_at : Links → ℕ → Link
link_at links i = get_or links.rows i (record { from = 0; via = 0 })

abbrev pub from : Links → ℕ → ℕ
from links i = (link_at links i).from

abbrev pub via : Links → ℕ → ℕ
via links i = (link_at links i).via
