use Rattle.std.proofs.Common.{◌^◌, arith}
use Rattle.sop_tables.specs.Tables.{table_room}
use Rattle.sop_tables.proofs.BesideLemmas.{less_room}
use Rattle.sop_tables.proofs.SourceLemmas.{source_stays}
use Rattle.sop_sheets.proofs.TwoLemmas.{room_beside, one_held, one_gone}
use Rattle.sop_sheets.proofs.RemadeLemmas.{both_made}
use Rattle.sop_sheets.proofs.remade.both.Goals as goal

pub changed-requires-clause-room : goal.changed-requires-clause-room
changed-requires-clause-room c = less_room c.args.shelf.now (2 ^ 36) table_room (omega arith) c.requires.room

pub changed-requires-2-clause-source : goal.changed-requires-2-clause-source
changed-requires-2-clause-source c =
    let made = c.in_ok-made.ensures.made in source_stays c.args.shelf.now c.changed.new.shelf c.args.names.now c.changed.new.names _ made.shifts made.grows c.args.second.now c.args.other c.requires.second

pub changed-requires-2-clause-room : goal.changed-requires-2-clause-room
changed-requires-2-clause-room c = room_beside c.args.shelf.now c.changed.new.shelf c.args.names.now c.changed.new.names c.in_ok-made.made c.in_ok-made.ensures.made c.requires.room

pub release-requires : goal.release-requires
release-requires c = record {
  held = one_held c.args.shelf.now c.changed.new.shelf c.changed-2.new.shelf c.args.names.now c.changed.new.names c.changed-2.new.names c.in_ok-made.made c.in_ok-made.ensures.made c.in-Err.ensures.err;
}

pub returns-in-Err-clause-err : goal.returns-in-Err-clause-err
returns-in-Err-clause-err c =
    one_gone c.args.shelf.now c.changed.new.shelf c.changed-2.new.shelf c.release.new.shelf c.args.names.now c.changed.new.names c.changed-2.new.names c.in_ok-made.made c.in_ok-made.ensures.made c.in-Err.ensures.err c.release.ensures.shifts

pub returns-in-Ok-clause-made : goal.returns-in-Ok-clause-made
returns-in-Ok-clause-made c =
    let first = c.in_ok-made.ensures in
    let next = c.in-Ok.ensures in
    both_made c.args.shelf.now c.changed.new.shelf c.changed-2.new.shelf c.args.names.now c.changed.new.names c.changed-2.new.names c.args.first.now c.args.change c.args.second.now c.args.other c.in_ok-made.made c.in-Ok.next
    first.made first.set first.rows next.made next.set next.rows c.requires.second
