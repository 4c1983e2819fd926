use Rattle.sop_tables.proofs.BesideLemmas.{group_room}
use Rattle.sop_tables.proofs.beside.shared_members.Goals as goal

pub hold-requires-clause-room : goal.hold-requires-clause-room
hold-requires-clause-room c = group_room _ _ _ c.in_ok-made.ensures c.requires.few c.requires.room
