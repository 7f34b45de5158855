-- `fit::has_code` meets its contract. Assumes nothing.
use mathlib.Core.Path.{◌∙◌}
use Rattle.fit.proofs.Partner.{search_asked, search_answers}
use Rattle.fit.proofs.has_code.Goals as goal

pub next_coded-requires : goal.next_coded-requires
next_coded-requires c = search_asked c.requires.0 c.requires.1 c.start_of-start.ensures c.start_of-end.ensures

pub returns : goal.returns
returns c =
    c.is_some.ensures
    ∙ search_answers c.requires.0 c.requires.1 c.start_of-start.ensures c.start_of-end.ensures c.args.code c.next_coded.result c.next_coded.ensures
