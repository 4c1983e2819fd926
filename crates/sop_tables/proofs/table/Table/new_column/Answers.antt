use Rattle.std.proofs.lemmas.Result.{on_err_weaker}
use Rattle.sop_tables.proofs.MadeLemmas.{no_step}
use Rattle.sop_tables.proofs.BesideLemmas.{table_column, table_column_held, longer_fits, longer_number, longer_head, longer_result, picked_fits, picked_number, picked_head, picked_result, appended_head, widened_head}
use Rattle.sop_columns.proofs.NameLemmas.{grows_none}
use Rattle.sop_tables.proofs.table.Table.new_column.Goals as goal

pub column-requires : goal.column-requires
column-requires c = longer_number _ _ _ _ _ c.requires.source c.in-Longer.more c.in-Longer.is c.requires.number

pub longer_column-requires-clause-column : goal.longer_column-requires-clause-column
longer_column-requires-clause-column c =
    table_column _ _ _ c.requires.source.table c.requires.source.held c.args.k _ c.column.ensures _ _ c.count.ensures (longer_head _ _ _ _ _ c.requires.source c.in-Longer.more c.in-Longer.is _ c.requires.head)

pub longer_column-requires-clause-held : goal.longer_column-requires-clause-held
longer_column-requires-clause-held c = table_column_held _ _ _ c.requires.source.table c.requires.source.held c.args.k _ c.column.ensures

pub longer_column-requires-clause-most : goal.longer_column-requires-clause-most
longer_column-requires-clause-most c = longer_fits _ _ _ _ c.args.k c.requires.source c.in-Longer.more c.in-Longer.is _ c.count.ensures

pub returns-in-Longer-clause-made : goal.returns-in-Longer-clause-made
returns-in-Longer-clause-made c =
    longer_result c.args.shelf.now c.args.names.now c.args.self.now c.args.change c.args.k c.requires.source c.in-Longer.more c.in-Longer.is c.longer_column.result c.longer_column.new.shelf c.longer_column.new.names c.args.head.now c.column.result.now c.count.result c.count.ensures c.column.ensures c.longer_column.ensures.made

pub column-requires-in-Picked : goal.column-requires-in-Picked
column-requires-in-Picked c = picked_number _ _ _ _ _ c.requires.source c.in-Picked.numbers c.in-Picked.is c.requires.number

pub picked_column-requires-clause-column : goal.picked_column-requires-clause-column
picked_column-requires-clause-column c =
    table_column _ _ _ c.requires.source.table c.requires.source.held c.args.k _ c.column-in-Picked.ensures _ _ c.count-in-Picked.ensures (picked_head _ _ _ _ _ c.requires.source c.in-Picked.numbers c.in-Picked.is _ c.requires.head)

pub picked_column-requires-clause-held : goal.picked_column-requires-clause-held
picked_column-requires-clause-held c = table_column_held _ _ _ c.requires.source.table c.requires.source.held c.args.k _ c.column-in-Picked.ensures

pub picked_column-requires-clause-picks : goal.picked_column-requires-clause-picks
picked_column-requires-clause-picks c = picked_fits _ _ _ _ c.args.k c.requires.source c.in-Picked.numbers c.in-Picked.is _ c.count-in-Picked.ensures

pub returns-in-Picked-clause-err : goal.returns-in-Picked-clause-err
returns-in-Picked-clause-err c = on_err_weaker _ (λ e. no_step _ _ _ _ e (grows_none _)) c.picked_column.ensures.err

pub returns-in-Picked-clause-made : goal.returns-in-Picked-clause-made
returns-in-Picked-clause-made c =
    picked_result c.args.shelf.now c.args.names.now c.args.self.now c.args.change c.args.k c.requires.source c.in-Picked.numbers c.in-Picked.is c.picked_column.result c.picked_column.new.shelf c.args.names.now c.args.head.now c.column-in-Picked.result.now c.count-in-Picked.result c.count-in-Picked.ensures c.column-in-Picked.ensures c.picked_column.ensures.made

pub appended_column-requires-clause-head : goal.appended_column-requires-clause-head
appended_column-requires-clause-head c = appended_head _ _ _ _ c.args.k c.requires.source c.in-Appended.other c.args.head.now c.in-Appended.is c.requires.head

pub widened_column-requires-clause-head : goal.widened_column-requires-clause-head
widened_column-requires-clause-head c = widened_head _ _ _ _ c.args.k c.requires.source c.in-Widened.other c.args.head.now c.in-Widened.is c.requires.head
