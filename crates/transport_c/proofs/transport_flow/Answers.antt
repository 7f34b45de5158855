-- `transport_c::transport_flow` meets its contract. Assumes nothing.
use mathlib.Core.Path.{refl}
use Rattle.transport_c.proofs.transport_flow.Goals as goal

pub maximum_flow-r-requires : goal.maximum_flow-r-requires
maximum_flow-r-requires c = (c.accepts.ensures.taken c.if-accepts.true).given

pub put-requires : goal.put-requires
put-requires c =
    (c.accepts.ensures.taken c.if-accepts.true).cut_place

pub bounds-paths-0 : goal.bounds-paths-0
bounds-paths-0 c =
    (c.accepts.ensures.taken c.if-accepts.true).paths_place

pub returns-then-accepts : goal.returns-then-accepts
returns-then-accepts c =
    let (answered, counts) = c.maximum_flow-r.ensures in
    record { answered = λ _. (refl, _, _, c.put.ensures, refl, answered, counts); refused = λ not_taken. absurd (not_taken (c.accepts.ensures.taken c.if-accepts.true)) }

pub returns : goal.returns
returns c = record { answered = λ t. absurd (c.accepts.ensures.refused c.if-accepts.false t); refused = λ _. (refl, refl, refl, refl) }
