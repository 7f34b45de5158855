-- `fit::next_coded` meets its contract: an iterator finds the first. Assumes nothing.
use borrow.Author.Rules.{rules}
use borrow.Author.Tests.{tests}
use Rattle.std.proofs.lemmas.Iterator.{YieldsList-from_range, first_from_find}
use Rattle.fit.proofs.Partner.{HasCode, Other, first_coded}
use Rattle.fit.proofs.next_coded.Goals as goal

pub returns : goal.returns
returns c =
    let a = c.args in
    first_coded a.tables.now a.code a.l a.end c.find.result
    (first_from_find _ _ c.find.result (HasCode a.tables.now a.code a.l a.end) (Other a.tables.now a.code a.l a.end) c.find.ensures.ran
    (YieldsList-from_range a.l a.end _ (search rules) (search rules)) (λ x q k. search (rules, tests)) (λ x q k. search (rules, tests)))
