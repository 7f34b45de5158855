-- `loading::put_supports` meets its contract: the entries of the transitions below the loop's counter are put, with where they begin.
-- Assumes nothing.
use mathlib.Core.Path.{◌≡◌, refl, ◌∙◌, ap, subst}
use mathlib.Core.List.{List}
use Prim.Native.Nat.{ℕ, ◌+◌, ◌*◌, ◌≤◌, ◌<◌}
use native.Mathlib.Omega.{arith}
use lib.ListN.{length, set, length-set}
use Rattle.simulation.specs.Limits.{wide, most_transitions, most_entries}
use Rattle.simulation.specs.Table.{Entry}
use Rattle.simulation.specs.Support.{support_entries}
use Rattle.simulation.proofs.Finite.Sums.{sum-none, sum_more}
use Rattle.layout.specs.Bytes.{byte, size, start, transitions, entries}
use Rattle.layout.proofs.Bounds.{accepted_bounds}
use Rattle.layout.proofs.PlaceLaws.{run-within}
use Rattle.form.specs.Form.{form_size, entry_starts_from, listed_from, entry_start}
use Rattle.table.proofs.PartLaws.{Parts}
use Rattle.loading.specs.Fill.{EntriesPut, support_of, support_start, Supports, SupportsUpTo}
use Rattle.loading.proofs.FillLaws.{parts_of, between_trans, between_wider}
use Rattle.loading.proofs.SupportLaws.{between_none, between-set, entries_of, support_start-few, starts_none, start_put, starts-kept, supports_more}
use Rattle.loading.proofs.put_supports.Goals as goal
use Rattle.loading.proofs.put_supports.Goals.{After-byte_at-size}

pub overflow_add-sizes_at : goal.overflow_add-sizes_at
overflow_add-sizes_at c = let p = parts_of c.requires in omega arith

pub loop-j-init : goal.loop-j-init
loop-j-init c =
    let a = c.args in
    (omega arith, omega (arith, sum-none (size wide a.s.now)), sum-none _, starts_none a.s.now a.form.now, between_none entry_starts_from listed_from a.form.now)

pub overflow_mul-j : goal.overflow_mul-j
overflow_mul-j c = let p = parts_of c.requires in omega arith

pub overflow_add-sizes_at-in-loop-j : goal.overflow_add-sizes_at-in-loop-j
overflow_add-sizes_at-in-loop-j c = let p = parts_of c.requires in omega arith

pub byte_at-size-requires : goal.byte_at-size-requires
byte_at-size-requires c = let p = parts_of c.requires in omega arith

-- in a turn: the byte read is how many entries the transition lists, these lie within the bytes, and there is room for them
module _ (c : After-byte_at-size) where
  abbrev bytes : List ℕ
  bytes = c.args.s.now

  parts : Parts wide bytes c.args.t
  parts = parts_of c.requires

  sized : c.byte_at-size.result ≡ size wide bytes c.loop-j.j
  sized = let p = parts in c.byte_at-size.ensures.is ∙ ap (byte bytes) (omega arith)

  within : start wide bytes c.loop-j.j + c.byte_at-size.result ≤ entries wide bytes
  within = let p = parts in omega (arith, sized, run-within wide bytes c.loop-j.j c.requires.passed (omega arith))

  fits : c.loop-j.n + c.byte_at-size.result ≤ most_entries
  fits = let p = parts in omega (arith, within, support_start-few bytes c.loop-j.j)

  ends : c.loop-j.at + 3 * c.byte_at-size.result ≤ length bytes
  ends = let p = parts in omega (arith, within)

  long : form_size ≤ length c.loop-j.form
  long = omega (arith, c.loop-j.invariant.4.long)

pub overflow_cast-form : goal.overflow_cast-form
overflow_cast-form c = omega (arith, fits c)

pub overflow_add-form : goal.overflow_add-form
overflow_add-form c = let p = parts c in omega arith

pub offset_bounds-form-j : goal.offset_bounds-form-j
offset_bounds-form-j c = let p = parts c in omega arith

pub bounds-form-j : goal.bounds-form-j
bounds-form-j c = let p = parts c in omega (arith, long c)

pub put_entries-n-requires : goal.put_entries-n-requires
put_entries-n-requires c =
    let d = (goal.at.put_entries-n-requires c).After-byte_at-size in
    let l = c.loop-j in
    (ends d, fits d, omega (arith, long d, length-set l.form (entry_starts_from + l.j) l.n))

pub overflow_mul-at : goal.overflow_mul-at
overflow_mul-at c = omega (arith, ends (goal.at.overflow_mul-at c).After-byte_at-size)

pub overflow_add-at : goal.overflow_add-at
overflow_add-at c = omega (arith, ends (goal.at.overflow_add-at c).After-byte_at-size)

pub loop-j-preserved : goal.loop-j-preserved
loop-j-preserved c =
    let d = (goal.at.loop-j-preserved c).After-byte_at-size in
    let l = c.loop-j in
    let p = parts d in
    let s = bytes d in
    let j = l.j in
    let few : j < most_transitions = omega arith in
    let f = set l.form (entry_starts_from + j) l.n in
    let put : EntriesPut (support_of s j) f (support_start s j) c.put_entries-n.new.form c.put_entries-n.result =
    subst (λ (n : ℕ). EntriesPut (support_of s j) f n c.put_entries-n.new.form c.put_entries-n.result) l.invariant.2
    (subst (λ (es : List Entry). EntriesPut (support_entries es) f l.n c.put_entries-n.new.form c.put_entries-n.result) (entries_of s j l.at c.byte_at-size.result (omega arith) (sized d)) c.put_entries-n.ensures) in
    let more = supports_more s few (starts-kept s l.form j (omega arith) (long d) l.n l.invariant.3) (start_put s l.form j (omega arith) (long d) l.n ∙ l.invariant.2) put in (
      omega arith,
      omega (arith, sized d, sum_more j (size wide s) refl),
      more.1,
      more.0,
      between_trans l.invariant.4 (between_trans (between-set entry_starts_from listed_from (entry_starts_from + j) l.n l.form (omega arith) (omega arith)) (between_wider entry_starts_from listed_from put.elsewhere (omega arith) (omega arith))),
    )

pub overflow_cast-form-2 : goal.overflow_cast-form-2
overflow_cast-form-2 c =
    let s = c.args.s.now in
    let e = c.requires.passed in
    let p = parts_of c.requires in
    let all : c.loop-j.j ≡ transitions wide s = omega arith in
    omega (arith, support_start-few s c.loop-j.j, ap (start wide s) all, (accepted_bounds wide s e).of_entries.counted)

pub overflow_add-form-2 : goal.overflow_add-form-2
overflow_add-form-2 c = let p = parts_of c.requires in omega arith

pub offset_bounds-form-t : goal.offset_bounds-form-t
offset_bounds-form-t c = let p = parts_of c.requires in omega arith

pub bounds-form-t : goal.bounds-form-t
bounds-form-t c = let p = parts_of c.requires in omega (arith, c.loop-j.invariant.4.long)

pub shape_of-form : goal.shape_of-form
shape_of-form c = length-set c.loop-j.form _ c.loop-j.n ∙ c.loop-j.invariant.4.long

pub returns : goal.returns
returns c =
    let p = parts_of c.requires in
    let bytes = c.args.s.now in
    let m = c.args.t.transitions.count in
    let f = c.loop-j.form in
    let long : form_size ≤ length f = omega (arith, c.loop-j.invariant.4.long) in
    let few : m ≤ most_transitions = omega arith in
    let all : c.loop-j.j ≡ m = omega arith in
    let h : Supports bytes f m = rw all at c.loop-j.invariant.3 in
    let last : entry_start (set f (entry_starts_from + m) c.loop-j.n) m ≡ support_start bytes m = start_put bytes f m few long c.loop-j.n ∙ c.loop-j.invariant.2 ∙ ap (support_start bytes) all in (
      subst (λ (k : ℕ). SupportsUpTo bytes (set f (entry_starts_from + m) c.loop-j.n) k) p.transitions-are (record { each = starts-kept bytes f m few long c.loop-j.n h; last_is = last }),
      between_trans c.loop-j.invariant.4 (between-set entry_starts_from listed_from (entry_starts_from + m) c.loop-j.n f (omega arith) (omega arith)),
    )
