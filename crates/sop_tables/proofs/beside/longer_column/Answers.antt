use Rattle.std.proofs.Common.{◌≡◌, ◌≤◌, ◌+◌, ◌*◌, ◌<◌, length, arith}
use Rattle.std.proofs.lemmas.Result.{IfOk-at_ok, on_err_weaker}
use Rattle.std.proofs.lemmas.Bool.Decides.{nat_tests}
use Rattle.sop_tables.proofs.MadeLemmas.{ok_of, no_step}
use Rattle.sop_tables.proofs.BesideLemmas.{column_few, column_is, column_room, shared_longer, longer_made}
use Rattle.sop_columns.proofs.NameLemmas.{grows_none}
use Rattle.sop_columns.specs.Values.{IsColumn, Continues, values}
use Rattle.sop_cells.specs.Shelves.{Shifts, column}
use Rattle.sop_model.specs.Values.{default_of}
use Rattle.sop_pages.specs.declared.page.TheConstants.{MOST_CELLS}
use Rattle.sop_tables.proofs.beside.longer_column.Goals as goal

pub shared_column-requires-clause-few : goal.shared_column-requires-clause-few
shared_column-requires-clause-few c = column_few _ _ _ _ _ c.requires.column (let m = c.requires.most in omega arith)

pub extended-requires-clause-column : goal.extended-requires-clause-column
extended-requires-clause-column c = column_is _ _ _ _ _ c.requires.column c.requires.held

pub extended-requires-clause-room : goal.extended-requires-clause-room
extended-requires-clause-room c = column_room _ _ (column_few _ _ _ _ _ c.requires.column (let m = c.requires.most in omega arith)) c.requires.room

pub returns-then-reaches-clause-err : goal.returns-then-reaches-clause-err
returns-then-reaches-clause-err c = on_err_weaker _ (λ e. no_step _ _ _ _ e (grows_none _)) c.shared_column.ensures.err

pub returns-then-reaches-clause-made : goal.returns-then-reaches-clause-made
returns-then-reaches-clause-made c =
    ok_of _ (λ new e. shared_longer c.args.shelf.now c.shared_column.new.shelf c.args.names.now _ _ c.args.head.now c.args.column.now new c.requires.column c.requires.held
    (IfOk-at_ok (λ x. x ≡ c.args.column.now) e c.shared_column.ensures.same) (IfOk-at_ok (λ x. Shifts c.args.shelf.now c.shared_column.new.shelf _ c.args.column.now) e c.shared_column.ensures.shifts)
    (let a = c.if-reaches.ensures in grind (arith, nat_tests, a)))

pub returns-else-reaches-clause-err : goal.returns-else-reaches-clause-err
returns-else-reaches-clause-err c = on_err_weaker _ (λ e. no_step _ _ _ _ e c.extended.ensures.grows) c.extended.ensures.err

pub returns-else-reaches-clause-made : goal.returns-else-reaches-clause-made
returns-else-reaches-clause-made c =
    let t = c.extended.new.shelf in let m = c.extended.new.names in
    ok_of _ (λ new e. longer_made c.args.shelf.now t c.args.names.now m _ _ c.args.head.now c.args.column.now new c.requires.column
    (IfOk-at_ok (λ x. Shifts c.args.shelf.now t _ x) e c.extended.ensures.shifts) c.extended.ensures.grows
    (IfOk-at_ok (IsColumn t m) e c.extended.ensures.column)
    (IfOk-at_ok (λ x. Continues (values c.args.shelf.now c.args.names.now c.args.column.now) (values t m x) (default_of c.args.head.now.kind)) e c.extended.ensures.values)
    (IfOk-at_ok (λ x. c.args.count + c.args.more ≤ length (column t x)) e c.extended.ensures.enough)
    (IfOk-at_ok (λ x. MOST_CELLS * length x < c.args.count + c.args.more + MOST_CELLS) e c.extended.ensures.tight))
