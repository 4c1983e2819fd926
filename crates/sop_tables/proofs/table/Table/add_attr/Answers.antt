use Rattle.std.proofs.Common.{◌≡◌, ◌∙◌, ◌∷◌, ◌++◌, [], ap, sym, subst, replicate}
use Rattle.sop_model.specs.Values.{default_of}
use Rattle.sop_columns.specs.Values.{values}
use Rattle.sop_columns.proofs.NameLemmas.{grows_none}
use Rattle.sop_tables.specs.Tables.{TableLists, rows, IsColumnOf, IsTableStep}
use Rattle.sop_tables.proofs.ColumnLemmas.{column_filled, held_filled}
use Rattle.sop_tables.proofs.StepLemmas.{with_last_column, more_step, more_rows}
use Rattle.sop_tables.proofs.table.Table.add_attr.Goals as goal
use Rattle.sop_tables.proofs.table.Table.add_attr.Goals.{After-push_reserved}

pub returns-in_err-reserve-clause-grows : goal.returns-in_err-reserve-clause-grows
returns-in_err-reserve-clause-grows c = grows_none c.args.names.now

pub returns-in_err-add-clause-grows : goal.returns-in_err-add-clause-grows
returns-in_err-add-clause-grows c = grows_none c.args.names.now

made : (c : After-push_reserved) → record { set = record { heads = c.add.new.self; groups = c.self.inside.set.groups }; columns = c.push_reserved.new.self.items; members = c.self.inside.members.items; count = c.self.inside.count } ≡ with_last_column c.args.self.now c.args.head c.in-Ok.column
made c =
    let h = c.in_ok-add.ensures.ok in
    let r = c.reserve.ensures.items in
    let m = c.push_reserved.ensures.items ∙ ap (λ cs. cs ++ c.in-Ok.column ∷ []) r in
    (λ j. record { set = record { heads = h j; groups = c.self.inside.set.groups }; columns = m j; members = c.self.inside.members.items; count = c.self.inside.count })
    ∙ ap (λ (t : TableLists). with_last_column t c.args.head c.in-Ok.column) c.self.view_is

filled : (c : After-push_reserved) → values c.new.new.shelf c.new.new.names c.in-Ok.column ≡ replicate c.args.self.now.count (default_of c.args.head.kind)
filled c = c.in-Ok.ensures.values ∙ ap (λ (t : TableLists). replicate t.count (default_of c.args.head.kind)) c.self.view_is

fresh : (c : After-push_reserved) → IsColumnOf c.new.new.shelf c.new.new.names c.args.self.now.count (default_of c.args.head.kind) c.in-Ok.column
fresh c = column_filled c.new.new.shelf c.new.new.names c.args.self.now.count (default_of c.args.head.kind) c.in-Ok.column c.in-Ok.ensures.column (filled c)

pub returns-in-Ok-clause-rows : goal.returns-in-Ok-clause-rows
returns-in-Ok-clause-rows c =
    ap (rows c.new.new.shelf c.new.new.names) (made c)
    ∙ more_rows c.args.shelf.now c.args.names.now c.args.self.now c.requires.table c.requires.held c.new.new.shelf c.new.new.names c.args.head c.in-Ok.column c.in-Ok.ensures.shifts c.new.ensures.grows (fresh c) c.requires.room
    (held_filled c.new.new.shelf c.new.new.names c.args.self.now.count (default_of c.args.head.kind) c.in-Ok.column (filled c))

pub returns-in-Ok-clause-step : goal.returns-in-Ok-clause-step
returns-in-Ok-clause-step c =
    subst (IsTableStep c.args.shelf.now c.new.new.shelf c.args.names.now c.new.new.names c.args.self.now) (sym (made c))
    (more_step c.args.shelf.now c.args.names.now c.args.self.now c.requires.table c.requires.held c.new.new.shelf c.new.new.names c.args.head c.in-Ok.column c.in-Ok.ensures.shifts c.new.ensures.grows (fresh c) c.requires.room)
