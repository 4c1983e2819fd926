use Rattle.std.proofs.Common.{refl}
use Rattle.sop_tables.proofs.MadeLemmas.{no_step, on_err, columns_held, columns_gone, still_held}
use Rattle.sop_tables.proofs.LoadedLemmas.{table_loaded, rows_of_loaded}
use Rattle.sop_columns.proofs.NameLemmas.{grows_none}
use Rattle.sop_tables.proofs.table.Table.of_view.Goals as goal

pub returns-in_err-heads-clause-err : goal.returns-in_err-heads-clause-err
returns-in_err-heads-clause-err g c = on_err _ (no_step _ _ _ _ refl (grows_none _))

pub returns-in_err-groups-clause-err : goal.returns-in_err-groups-clause-err
returns-in_err-groups-clause-err g c = on_err _ (no_step _ _ _ _ refl (grows_none _))

pub release_columns-requires : goal.release_columns-requires
release_columns-requires g c = record { held = still_held c.columns_in.new.shelf c.members_in.new.shelf _ _ c.in-Err.ensures.err (columns_held _ _ _ _ _ _ _ _ c.in_ok-columns.ensures.made) }

pub returns-in-Err-clause-err : goal.returns-in-Err-clause-err
returns-in-Err-clause-err g c =
    columns_gone _ _ _ _ _ _ _ _ c.in_ok-columns.ensures.made c.members_in.new.shelf c.columns_in.new.names _ (record { shifts = c.in-Err.ensures.err; grows = grows_none _ }) c.release_columns.ensures.shifts

pub returns-in-Ok-clause-made : goal.returns-in-Ok-clause-made
returns-in-Ok-clause-made g c =
    table_loaded c.args.shelf.now c.columns_in.new.shelf c.members_in.new.shelf c.args.names.now c.columns_in.new.names (g.V.GeoView.geo c.args.view.now) c.args.class c.requires.readable _ _ c.in_ok-columns.ensures.made c.in-Ok.ensures.made
    _ _ _ c.in_ok-heads.ensures c.in_ok-groups.ensures c.count.ensures

pub returns-in-Ok-clause-rows : goal.returns-in-Ok-clause-rows
returns-in-Ok-clause-rows g c =
    rows_of_loaded c.args.shelf.now c.columns_in.new.shelf c.members_in.new.shelf c.args.names.now c.columns_in.new.names (g.V.GeoView.geo c.args.view.now) c.args.class c.requires.readable _ _ c.in_ok-columns.ensures.made c.in-Ok.ensures.made
    _ _ _ c.in_ok-heads.ensures c.in_ok-groups.ensures c.count.ensures
