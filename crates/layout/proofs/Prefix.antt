-- A table cut short anywhere is refused with exactly 1, and one with bytes after it with exactly 2.
-- Assumes nothing.
use mathlib.Core.Path.{◌≡◌, ◌∙◌}
use mathlib.Core.List.{List, ◌∷◌, ◌++◌}
use Prim.Native.Nat.{ℕ, suc, ◌+◌, ◌≤◌, ◌<◌}
use native.Mathlib.Decide.{dec_lt}
use native.Mathlib.Omega.{arith}
use lib.Dec.{eqb}
use lib.ListN.{length, take, length-append, get_or-append}
use lib.Seq.{length-take-le, get_or-take}
use borrow.Author.Tests.{ne_eqb}
use Rattle.simulation.specs.Table.{Table}
use Rattle.layout.specs.Bytes.{◌then◌, refuse◌unless◌, byte, states_start, transitions_start, entries_start, end, refusal, actions_refusal, states_refusal, transitions_refusal, entries_refusal, refused, accepted, decode_as}
use Rattle.layout.proofs.Laws.{refused_unless}
use Rattle.layout.proofs.SectionLaws.{then_zero, then_stop}
use Rattle.layout.proofs.Bounds.{passes, refusal_is, transitions_start_is, entries_start_is, end_is}
use Rattle.layout.proofs.DecodeLaws.{decode-refused, decode-told}
use Rattle.layout.proofs.Agree.{actions-kept, actions-broken, states-kept, states-broken, transitions-kept, transitions-broken, entries-kept, entries-broken, end_same}

-- the first section that refuses decides
module _ (w : ℕ) (t : List ℕ) (k : ℕ) where
  abbrev later : ℕ
  later = refuse 2 unless eqb (end w t) (length t)

  at-actions : actions_refusal w t ≡ suc k → refusal w t ≡ suc k
  at-actions e = refusal_is w t ∙ then_stop later k (then_stop (entries_refusal w t) k (then_stop (transitions_refusal w t) k (then_stop (states_refusal w t) k e)))

  at-states : actions_refusal w t ≡ 0 → states_refusal w t ≡ suc k → refusal w t ≡ suc k
  at-states a e = refusal_is w t ∙ then_stop later k (then_stop (entries_refusal w t) k (then_stop (transitions_refusal w t) k (then_zero (states_refusal w t) a ∙ e)))

  module _ (a : actions_refusal w t ≡ 0) (b : states_refusal w t ≡ 0) where
    states_pass : actions_refusal w t then states_refusal w t ≡ 0
    states_pass = then_zero (states_refusal w t) a ∙ b

    at-transitions : transitions_refusal w t ≡ suc k → refusal w t ≡ suc k
    at-transitions e = refusal_is w t ∙ then_stop later k (then_stop (entries_refusal w t) k (then_zero (transitions_refusal w t) states_pass ∙ e))

    module _ (c : transitions_refusal w t ≡ 0) where
      transitions_pass : actions_refusal w t then states_refusal w t then transitions_refusal w t ≡ 0
      transitions_pass = then_zero (transitions_refusal w t) states_pass ∙ c

      at-entries : entries_refusal w t ≡ suc k → refusal w t ≡ suc k
      at-entries e = refusal_is w t ∙ then_stop later k (then_zero (entries_refusal w t) transitions_pass ∙ e)

      at-end : entries_refusal w t ≡ 0 → later ≡ suc k → refusal w t ≡ suc k
      at-end d e = refusal_is w t ∙ then_zero later (then_zero (entries_refusal w t) transitions_pass ∙ d) ∙ e

module _ (w : ℕ) (s : List ℕ) (e : refusal w s ≡ 0) where
  module _ (k : ℕ) (l : k < length s) where
    abbrev front : List ℕ
    front = take k s

    long : length front ≡ k
    long = length-take-le k s (omega arith)

    room : k ≤ length front
    room = omega (arith, long)

    same : (p : ℕ) → p < k → byte front p ≡ byte s p
    same p h = get_or-take k s p 0 h

    -- by the section that the end lies in
    cut : Dec (k < states_start w s) → Dec (k < transitions_start w s) → Dec (k < entries_start w s) → refusal w front ≡ 1
    cut (yes a) b c = at-actions w front 0 (actions-broken w s front k same e room long a)
    cut (no a) (yes b) c = at-states w front 0 (actions-kept w s front k same e room (omega arith)) (states-broken w s front k same e room long (omega arith) b)
    cut (no a) (no b) (yes c) =
        at-transitions w front 0 (actions-kept w s front k same e room (omega arith)) (states-kept w s front k same e room (omega arith))
        (transitions-broken w s front k same e room long (omega arith) c)
    cut (no a) (no b) (no c) =
        at-entries w front 0 (actions-kept w s front k same e room (omega arith)) (states-kept w s front k same e room (omega arith)) (transitions-kept w s front k same e room (omega arith))
        (entries-broken w s front k same e room long (omega arith) (omega (arith, (passes w s e).of_end)))

    pub prefix_refusal : refusal w (take k s) ≡ 1
    prefix_refusal = cut (dec_lt k (states_start w s)) (dec_lt k (transitions_start w s)) (dec_lt k (entries_start w s))

  module _ (b : ℕ) (more : List ℕ) where
    abbrev longer : List ℕ
    longer = s ++ b ∷ more

    beyond : length longer ≡ length s + suc (length more)
    beyond = length-append s (b ∷ more)

    kept : (p : ℕ) → p < length s → byte longer p ≡ byte s p
    kept p h = get_or-append s (b ∷ more) 0 p h

    pub longer_refusal : refusal w (s ++ b ∷ more) ≡ 2
    longer_refusal =
        let d = (passes w s e).of_end in
        let at-end-is = end_is w s in
        let entries_begin = entries_start_is w s in
        let transitions_begin = transitions_start_is w s in
        let room : length s ≤ length longer = omega (arith, beyond) in
        let after = end_same w s longer (length s) kept e room (omega arith) in
        let other = ne_eqb (end w longer) (length longer) (λ q. omega (arith, beyond)) in
        at-end w longer 1 (actions-kept w s longer (length s) kept e room (omega arith)) (states-kept w s longer (length s) kept e room (omega arith))
        (transitions-kept w s longer (length s) kept e room (omega arith)) (entries-kept w s longer (length s) kept e room (omega arith)) (refused_unless 2 other)

-- every proper prefix of accepted bytes
pub prefix_refused : (w : ℕ) (s : List ℕ) (M : Table) → decode_as w s ≡ accepted M → (k : ℕ) → k < length s → decode_as w (take k s) ≡ refused 1
prefix_refused w s M h k l = decode-refused w (take k s) 0 (prefix_refusal w s (decode-told w s M h).passed k l)

-- accepted bytes and more
pub longer_refused : (w : ℕ) (s : List ℕ) (M : Table) → decode_as w s ≡ accepted M → (b : ℕ) (more : List ℕ) → decode_as w (s ++ b ∷ more) ≡ refused 2
longer_refused w s M h b more = decode-refused w (s ++ b ∷ more) 1 (longer_refusal w s (decode-told w s M h).passed b more)
