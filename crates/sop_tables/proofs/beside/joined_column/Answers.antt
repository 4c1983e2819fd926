use Rattle.std.proofs.Common.{◌≡◌, ◌++◌, arith}
use Rattle.std.proofs.lemmas.Result.{IfOk-at_ok}
use Rattle.sop_cells.specs.Shelves.{Shifts}
use Rattle.sop_columns.specs.Values.{values, IsColumn}
use Rattle.sop_columns.proofs.NameLemmas.{grows_none}
use Rattle.sop_tables.specs.Tables.{held}
use Rattle.sop_tables.proofs.MadeLemmas.{ok_of}
use Rattle.sop_tables.proofs.BesideLemmas.{column_few, column_is}
use Rattle.sop_tables.proofs.JoinedLemmas.{whole_made, joined_room, joined_long}
use Rattle.sop_tables.proofs.beside.joined_column.Goals as goal

pub appended-requires-clause-kept : goal.appended-requires-clause-kept
appended-requires-clause-kept c = (column_is _ _ _ _ _ c.requires.first c.requires.first_held).kept

pub appended-requires-clause-more_kept : goal.appended-requires-clause-more_kept
appended-requires-clause-more_kept c = (column_is _ _ _ _ _ c.requires.second c.requires.second_held).kept

pub appended-requires-clause-room : goal.appended-requires-clause-room
appended-requires-clause-room c =
    let m = c.requires.most in
    joined_room _ _ _ (column_few _ _ _ _ _ c.requires.first (omega arith)) (column_few _ _ _ _ _ c.requires.second (omega arith)) c.requires.room

pub returns-clause-made : goal.returns-clause-made
returns-clause-made c =
    let s = c.args.shelf.now in let t = c.appended.new.shelf in let n = c.args.names.now in
    let vs = held s n c.args.len c.args.first.now ++ held s n c.args.more c.args.second.now in
    ok_of _ (λ new e. whole_made s t n n _ c.args.head.now vs new
    (IfOk-at_ok (λ x. Shifts s t _ x) e c.appended.ensures.shifts) (grows_none n)
    (IfOk-at_ok (IsColumn t n) e (c.appended.ensures.column n (column_is _ _ _ _ _ c.requires.first c.requires.first_held) (column_is _ _ _ _ _ c.requires.second c.requires.second_held)))
    (IfOk-at_ok (λ x. values t n x ≡ vs) e (c.appended.ensures.values n)) (joined_long s n _ _ _ _ _ _ c.requires.first c.requires.second))
