use Rattle.sop_tables.proofs.MadeLemmas.{columns_held, columns_room, columns_gone, still_held}
use Rattle.sop_tables.proofs.SourceLemmas.{source_stays, changed_made, changed_rows, after_most, all_heads_few}
use Rattle.sop_columns.proofs.NameLemmas.{grows_none}
use Rattle.sop_tables.proofs.table.Table.changed_under.Goals as goal

pub new_members-requires-clause-source : goal.new_members-requires-clause-source
new_members-requires-clause-source c =
    let made = c.in_ok-columns.ensures.made in source_stays c.args.shelf.now c.new_columns.new.shelf c.args.names.now c.new_columns.new.names _ made.shifts made.grows c.args.self.now c.args.change c.requires.source

pub new_members-requires-clause-room : goal.new_members-requires-clause-room
new_members-requires-clause-room c =
    columns_room c.args.shelf.now c.new_columns.new.shelf c.args.names.now c.new_columns.new.names _ _ _ _ c.in_ok-columns.ensures.made (after_most _ _ _ _ c.requires.source) (all_heads_few _ _ _ c.args.change c.args.set c.requires.source c.requires.set) c.requires.room

pub release_columns-requires : goal.release_columns-requires
release_columns-requires c = record { held = still_held c.new_columns.new.shelf c.new_members.new.shelf _ _ c.in-Err.ensures.err (columns_held _ _ _ _ _ _ _ _ c.in_ok-columns.ensures.made) }

pub returns-in-Err-clause-err : goal.returns-in-Err-clause-err
returns-in-Err-clause-err c =
    columns_gone _ _ _ _ _ _ _ _ c.in_ok-columns.ensures.made c.new_members.new.shelf c.new_columns.new.names _ (record { shifts = c.in-Err.ensures.err; grows = grows_none _ }) c.release_columns.ensures.shifts

pub returns-in-Ok-clause-made : goal.returns-in-Ok-clause-made
returns-in-Ok-clause-made c =
    changed_made c.args.shelf.now c.new_columns.new.shelf c.new_members.new.shelf c.args.names.now c.new_columns.new.names c.args.self.now c.args.change c.args.set c.requires.source c.requires.set _ _ c.in_ok-columns.ensures.made c.in-Ok.ensures.made _ c.count_after-count.ensures

pub returns-in-Ok-clause-rows : goal.returns-in-Ok-clause-rows
returns-in-Ok-clause-rows c =
    changed_rows c.args.shelf.now c.new_columns.new.shelf c.new_members.new.shelf c.args.names.now c.new_columns.new.names c.args.self.now c.args.change c.args.set c.requires.source c.requires.set _ _ c.in_ok-columns.ensures.made c.in-Ok.ensures.made _ c.count_after-count.ensures
