use Rattle.std.proofs.Common.{◌≡◌, ◌∙◌, ap, sym, subst, List, set}
use Rattle.sop_cells.specs.declared.place.Place.{Place}
use Rattle.sop_cells.specs.Shelves.{ShelfPages, column}
use Rattle.sop_columns.specs.Values.{IsColumn}
use Rattle.sop_columns.proofs.NameLemmas.{values_set, numbered_set}
use Rattle.sop_columns.proofs.ValueLemmas.{column_grows}
use Rattle.sop_columns.proofs.column.Column.set.Goals as goal
use Rattle.sop_columns.proofs.column.Column.set.Goals.{In_ok-set}

written : (c : In_ok-set) → column c.set.new.shelf c.set.new.self ≡ set (column c.args.shelf.now c.args.self.now) c.args.i c.in_ok-cell.cell
written c = c.in_ok-set.ensures.cells ∙ ap (λ (p : List Place). set (column c.args.shelf.now p) c.args.i c.in_ok-cell.cell) c.self.view_is

pub returns-in_err-set-clause-column : goal.returns-in_err-set-clause-column
returns-in_err-set-clause-column c =
    let same = c.in_err-set.ensures.err in
    subst (λ (s : ShelfPages). IsColumn s c.cell.new.self c.set.new.self) (sym same.0)
    (subst (λ (p : List Place). IsColumn c.args.shelf.now c.cell.new.self p) (sym (same.1 ∙ c.self.view_is)) (column_grows c.args.shelf.now c.args.names.now c.cell.new.self c.args.self.now c.cell.ensures.grows c.requires.column))

pub returns-clause-values : goal.returns-clause-values
returns-clause-values c = values_set c.args.names.now c.cell.new.self _ _ c.args.i c.in_ok-cell.cell (written c) c.cell.ensures.grows c.requires.column.numbered c.args.value.now c.in_ok-cell.ensures.value

pub returns-clause-column : goal.returns-clause-column
returns-clause-column c = record { kept = c.set.ensures.kept; numbered = numbered_set c.args.names.now c.cell.new.self _ _ c.args.i c.in_ok-cell.cell (written c) c.cell.ensures.grows c.requires.column.numbered c.in_ok-cell.ensures.numbered }
