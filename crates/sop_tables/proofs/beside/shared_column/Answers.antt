use Rattle.sop_tables.proofs.BesideLemmas.{column_room_as}
use Rattle.sop_tables.proofs.beside.shared_column.Goals as goal

pub hold-requires-clause-room : goal.hold-requires-clause-room
hold-requires-clause-room c = column_room_as _ _ _ c.in_ok-made.ensures c.requires.few c.requires.room
