use Rattle.std.proofs.Common.{◌≡◌}
use Rattle.std.proofs.lemmas.Result.{IfOk-at_ok}
use Rattle.sop_tables.proofs.MadeLemmas.{ok_of}
use Rattle.sop_tables.proofs.BesideLemmas.{column_few, column_is, column_room, picked_made, picks_within}
use Rattle.sop_columns.specs.Values.{IsColumn, values, values_at}
use Rattle.sop_cells.specs.Shelves.{Shifts}
use Rattle.sop_tables.proofs.beside.picked_column.Goals as goal

pub picked-requires-clause-kept : goal.picked-requires-clause-kept
picked-requires-clause-kept c = (column_is _ _ _ _ _ c.requires.column c.requires.held).kept

pub picked-requires-clause-within : goal.picked-requires-clause-within
picked-requires-clause-within c = picks_within _ _ _ _ _ _ c.requires.column c.requires.picks

pub picked-requires-clause-room : goal.picked-requires-clause-room
picked-requires-clause-room c = column_room _ _ (column_few _ _ _ _ _ c.requires.column c.requires.most) c.requires.room

pub returns-clause-made : goal.returns-clause-made
returns-clause-made c =
    let s = c.args.shelf.now in let t = c.picked.new.shelf in let n = c.args.names.now in
    ok_of _ (λ new e. picked_made s t n _ c.args.head.now c.args.numbers.now c.args.column.now new c.requires.column c.requires.picks
    (IfOk-at_ok (λ x. Shifts s t _ x) e c.picked.ensures.shifts)
    (IfOk-at_ok (IsColumn t n) e (c.picked.ensures.column n (column_is _ _ _ _ _ c.requires.column c.requires.held)))
    (IfOk-at_ok (λ x. values t n x ≡ values_at (values s n c.args.column.now) c.args.numbers.now) e (c.picked.ensures.values n)))
