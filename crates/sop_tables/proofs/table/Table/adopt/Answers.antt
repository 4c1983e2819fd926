use Rattle.std.proofs.Common.{◌∙◌, [], List, length, map, ap, sym, subst, arith}
use Rattle.std.proofs.lemmas.List.{length-map}
use Rattle.sop_pages.specs.declared.cell.Cell.{Cell}
use Rattle.sop_cells.specs.declared.place.Place.{Place}
use Rattle.sop_cells.specs.Shelves.{joined, IsKept, Shifts}
use Rattle.sop_columns.specs.Names.{value_of}
use Rattle.sop_columns.proofs.NameLemmas.{grows_none}
use Rattle.sop_tables.specs.Tables.{TableLists, rows, column_at, default_at, IsColumnOf, IsTableStep}
use Rattle.sop_tables.proofs.ColumnLemmas.{column_made}
use Rattle.sop_tables.proofs.StepLemmas.{many_columns}
use Rattle.sop_tables.proofs.SwapLemmas.{still_kept, swap_step, swap_rows}
use Rattle.sop_tables.proofs.table.Table.adopt.Goals as goal
use Rattle.sop_tables.proofs.table.Table.adopt.Goals.{After-replace-old, After-release}

pub replace-old-requires : goal.replace-old-requires
replace-old-requires c = let l = many_columns c.args.shelf.now c.args.names.now c.args.self.now c.requires.table c.requires.held in let h = c.requires.head in omega arith

kept : (c : After-replace-old) → IsKept c.from_pages.new.shelf c.replace-old.result
kept c = subst (IsKept c.from_pages.new.shelf) (sym c.replace-old.ensures.out)
    (still_kept c.args.shelf.now c.args.names.now c.args.self.now c.requires.table c.requires.held c.args.head c.requires.head c.from_pages.new.shelf c.in-Ok.column c.in-Ok.ensures.shifts)

pub release-requires-clause-covered : goal.release-requires-clause-covered
release-requires-clause-covered c = (kept (goal.at.release-requires-clause-covered c).After-replace-old).covered

pub release-requires-clause-based : goal.release-requires-clause-based
release-requires-clause-based c = (kept (goal.at.release-requires-clause-based c).After-replace-old).based

made : (c : After-release) → IsColumnOf c.from_pages.new.shelf c.args.names.now c.args.self.now.count (default_at c.args.self.now.set c.args.head) c.in-Ok.column
made c = column_made c.from_pages.new.shelf c.args.names.now c.args.self.now.count (default_at c.args.self.now.set c.args.head) c.in-Ok.column
    (c.in-Ok.ensures.column c.args.names.now c.requires.numbered) (ap (λ (pages : List (List Cell)). length (joined pages)) c.in-Ok.ensures.blocks ∙ c.requires.many)

gone : (c : After-release) → Shifts c.from_pages.new.shelf c.release.new.shelf (column_at c.args.self.now c.args.head) []
gone c = let P : List Place → Type 0 = λ p. Shifts c.from_pages.new.shelf c.release.new.shelf p [] in subst P c.replace-old.ensures.out c.release.ensures.shifts

pub returns-in-Ok-clause-rows : goal.returns-in-Ok-clause-rows
returns-in-Ok-clause-rows c =
    let d = (goal.at.returns-in-Ok-clause-rows c).After-release in
    ap (rows c.release.new.shelf c.args.names.now) c.replace-old.ensures.now
    ∙ swap_rows c.args.shelf.now c.args.names.now c.args.self.now c.requires.table c.requires.held c.args.head c.requires.head c.from_pages.new.shelf c.release.new.shelf c.args.names.now c.in-Ok.column
    c.in-Ok.ensures.shifts (gone d) (grows_none c.args.names.now) (made d) (map (value_of c.args.names.now) (joined c.args.pages))
    (ap (λ (pages : List (List Cell)). map (value_of c.args.names.now) (joined pages)) c.in-Ok.ensures.blocks)
    (length-map (joined c.args.pages) (value_of c.args.names.now) ∙ c.requires.many)

pub returns-in-Ok-clause-step : goal.returns-in-Ok-clause-step
returns-in-Ok-clause-step c =
    let d = (goal.at.returns-in-Ok-clause-step c).After-release in
    let P : TableLists → Type 0 = IsTableStep c.args.shelf.now c.release.new.shelf c.args.names.now c.args.names.now c.args.self.now in
    subst P (sym c.replace-old.ensures.now)
    (swap_step c.args.shelf.now c.args.names.now c.args.self.now c.requires.table c.requires.held c.args.head c.requires.head c.from_pages.new.shelf c.release.new.shelf c.args.names.now c.in-Ok.column
    c.in-Ok.ensures.shifts (gone d) (grows_none c.args.names.now) (made d))
