-- `rounds::Work::turn` meets its contract: the lost pairs are settled, they raise doubts, and the next are found.
-- Assumes nothing.
use mathlib.Core.Path.{refl}
use native.Mathlib.Omega.{arith}
use Rattle.form.specs.Tables.{first_table, contract_table}
use Rattle.form.proofs.Contract.{contract-few, contract-pairs}
use Rattle.fit.proofs.Trying.{tried-less}
use Rattle.links.proofs.Doubting.{same_marks_more}
use Rattle.rounds.proofs.Turning.{held-less, lost_places, bounded, moved, past, sure}
use Rattle.rounds.proofs.Work.turn.Goals as goal

pub overflow_add-count : goal.overflow_add-count
overflow_add-count c =
    let t = c.requires.0 in
    let tables = c.args.self.now.tables.now in
    omega (arith, bounded t.standing c.requires.1, contract-pairs tables t.prepared.loaded)

pub settle-requires : goal.settle-requires
settle-requires c =
    let t = c.requires.0 in
    let e = c.width-q.ensures in (
      t.prepared.rows_room,
      omega (arith, e, contract-few c.args.self.now.tables.now t.prepared.loaded),
      (λ s u m. (t.standing.next.within s u m).1),
      lost_places t.standing e t.prepared.ranks_room,
    )

pub doubts-doubtful-requires : goal.doubts-doubtful-requires
doubts-doubtful-requires c =
    let t = c.requires.0 in
    λ s u m. (t.standing.next.within s u m).1

pub drop_rows-next-requires : goal.drop_rows-next-requires
drop_rows-next-requires c =
    let t = c.requires.0 in
    let p = t.prepared in
    let tables = c.args.self.now.tables.now in
    let w = c.doubts-doubtful.ensures.0 in (
      p.loaded,
      record {
        target_sets = p.sets_known.targets;
        rows_room = omega (arith, p.rows_room);
        ready = sure t (moved t.standing c.requires.1 c.width-q.ensures c.settle.ensures) w;
        none_lost = w.empty;
      },
      tried-less (held-less (first_table tables) (contract_table tables) c.settle.ensures) p.known,
      p.amounts_room,
    )

pub returns : goal.returns
returns c =
    let t = c.requires.0 in
    let p = t.prepared in
    let e = c.width-q.ensures in (
      refl,
      record {
        kept = record {
          tables = refl;
          sets = refl;
          ranks = refl;
          rows = refl;
          marks = refl;
          same_marks = same_marks_more c.doubts-doubtful.ensures.1 c.drop_rows-next.ensures.1;
        };
        turning = record {
          prepared = record {
            loaded = p.loaded;
            ranks_room = omega (arith, p.ranks_room);
            sets_known = p.sets_known;
            rows_room = omega (arith, p.rows_room);
            amounts_room = omega (arith, p.amounts_room);
            known = c.drop_rows-next.ensures.0.known;
          };
          standing = record { after = moved t.standing c.requires.1 e c.settle.ensures; next = c.drop_rows-next.ensures.0.fallen };
        };
        beyond = past t.standing e c.settle.ensures;
      },
    )
