use Rattle.std.proofs.Common.{◌≡◌, ◌∙◌, [], List, length, remove, ap, sym, subst, arith}
use Rattle.sop_model.specs.declared.geo.Head.{Head}
use Rattle.sop_cells.specs.declared.place.Place.{Place}
use Rattle.sop_cells.specs.Shelves.{IsKept, Shifts}
use Rattle.sop_columns.proofs.NameLemmas.{grows_none}
use Rattle.sop_tables.specs.Tables.{TableLists, rows, column_at, IsTableStep}
use Rattle.sop_tables.proofs.StepLemmas.{many_columns, column_there, without_column, without_step, without_rows}
use Rattle.sop_tables.proofs.SetLemmas.{column_read}
use Rattle.sop_tables.proofs.table.Table.del_attr.Goals as goal
use Rattle.sop_tables.proofs.table.Table.del_attr.Goals.{After-remove-column, After-release}

pub remove-column-requires : goal.remove-column-requires
remove-column-requires c =
    let l = many_columns c.args.shelf.now c.args.names.now c.args.self.now c.requires.table c.requires.held in let e = ap (λ (t : TableLists). length t.columns) c.self.view_is in let h = c.requires.head in omega arith

read : (c : After-remove-column) → c.remove-column.result ≡ column_at c.args.self.now c.args.head
read c = column_read c.args.shelf.now c.args.shelf.now c.args.names.now c.args.names.now c.args.self.now c.requires.table c.requires.held c.args.head c.requires.head c.self.inside.columns.items c.remove-column.result
    (ap (λ (t : TableLists). t.columns) c.self.view_is) c.remove-column.ensures.value

kept : (c : After-remove-column) → IsKept c.args.shelf.now c.remove-column.result
kept c = subst (IsKept c.args.shelf.now) (sym (read c)) (column_there c.args.shelf.now c.args.names.now c.args.self.now c.requires.table c.requires.held c.args.head c.requires.head).kept

pub release-requires-clause-covered : goal.release-requires-clause-covered
release-requires-clause-covered c = (kept (goal.at.release-requires-clause-covered c).After-remove-column).covered

pub release-requires-clause-based : goal.release-requires-clause-based
release-requires-clause-based c = (kept (goal.at.release-requires-clause-based c).After-remove-column).based

made : (c : After-release) → record { set = record { heads = c.from_vec.result; groups = c.self.inside.set.groups }; columns = c.remove-column.new.self.items; members = c.self.inside.members.items; count = c.self.inside.count } ≡ without_column c.args.self.now c.args.head
made c =
    let h = c.from_vec.ensures ∙ c.remove.ensures.items ∙ ap (λ (hs : List Head). remove hs c.args.head) (c.into_vec-heads.ensures ∙ c.replace-heads.ensures.value) in
    let m = c.remove-column.ensures.items in
    (λ j. record { set = record { heads = h j; groups = c.self.inside.set.groups }; columns = m j; members = c.self.inside.members.items; count = c.self.inside.count })
    ∙ ap (λ (t : TableLists). without_column t c.args.head) c.self.view_is

gone : (c : After-release) → Shifts c.args.shelf.now c.release.new.shelf (column_at c.args.self.now c.args.head) []
gone c = let P : List Place → Type 0 = λ p. Shifts c.args.shelf.now c.release.new.shelf p [] in subst P (read (goal.at.returns-clause-step c).After-remove-column) c.release.ensures.shifts

pub returns-clause-rows : goal.returns-clause-rows
returns-clause-rows c =
    ap (rows c.release.new.shelf c.args.names.now) (made c)
    ∙ without_rows c.args.shelf.now c.args.names.now c.args.self.now c.requires.table c.requires.held c.args.head c.requires.head c.release.new.shelf c.args.names.now (gone c) (grows_none c.args.names.now)

pub returns-clause-step : goal.returns-clause-step
returns-clause-step c =
    subst (IsTableStep c.args.shelf.now c.release.new.shelf c.args.names.now c.args.names.now c.args.self.now) (sym (made c))
    (without_step c.args.shelf.now c.args.names.now c.args.self.now c.requires.table c.requires.held c.args.head c.requires.head c.release.new.shelf c.args.names.now (gone c) (grows_none c.args.names.now))
