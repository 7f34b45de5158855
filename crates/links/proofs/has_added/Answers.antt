-- `links::has_added` meets its contract. The loop's invariant: the second table lists the codes of the transitions passed.
-- Assumes nothing.
use mathlib.Core.Path.{◌≡◌, subst}
use Prim.Native.Nat.{ℕ}
use native.Mathlib.Omega.{arith}
use Rattle.form.specs.Form.{transitions_of}
use Rattle.form.specs.Tables.{first_form}
use Rattle.fit.proofs.Sets.{last-start}
use Rattle.links.proofs.Growing.{each_next}
use Rattle.links.proofs.has_added.Goals as goal
use Rattle.links.proofs.has_added.Goals.{After-start_of-n}

-- n counts all transitions
all : (c : After-start_of-n) → c.start_of-n.result ≡ transitions_of (first_form c.args.tables.now)
all c =
    let f = first_form c.args.tables.now in
    subst (λ (n : ℕ). c.start_of-n.result ≡ n) (last-start f) (rw (← c.states.ensures) c.start_of-n.ensures)

pub start_of-n-requires : goal.start_of-n-requires
start_of-n-requires c = omega (arith, c.states.ensures)

pub loop-j-init : goal.loop-j-init
loop-j-init c = λ k a. absurd (omega arith)

pub also_listed-requires : goal.also_listed-requires
also_listed-requires c = (c.requires, omega (arith, all (goal.at.also_listed-requires c).After-start_of-n), c.loop-j.invariant)

pub loop-j-preserved : goal.loop-j-preserved
loop-j-preserved c = each_next _ c.loop-j.j c.loop-j.invariant (c.also_listed.ensures c.if-not-also_listed.false)

pub returns : goal.returns
returns c _ j b = c.loop-j.invariant j (omega (arith, all (goal.at.returns c).After-start_of-n))
