use Rattle.std.proofs.Common.{◌≡◌, ◌∙◌, ◌++◌, ◌-◌, ℕ, List, ap, length, replicate}
use Rattle.sop_cells.specs.declared.place.Place.{Place}
use Rattle.sop_cells.specs.Shelves.{column}
use Rattle.sop_columns.proofs.ValueLemmas.{values_continue, numbered_continue}
use Rattle.sop_columns.proofs.column.Column.extended.Goals as goal
use Rattle.sop_columns.proofs.column.Column.extended.Goals.{In_ok-cells}

abbrev rest : (c : In_ok-cells) → ℕ
rest c = length (column c.extended.new.shelf c.in_ok-cells.cells) - length (column c.args.shelf.now c.args.self.now)

longer : (c : In_ok-cells) → column c.extended.new.shelf c.in_ok-cells.cells ≡ column c.args.shelf.now c.args.self.now ++ replicate (rest c) c.in_ok-cell.cell
longer c =
    c.in_ok-cells.ensures.cells
    ∙ ap (λ (p : List Place). column c.args.shelf.now p ++ replicate (length (column c.extended.new.shelf c.in_ok-cells.cells) - length (column c.args.shelf.now p)) c.in_ok-cell.cell) c.self.view_is

pub returns-clause-values : goal.returns-clause-values
returns-clause-values c =
    values_continue c.args.names.now c.default_cell.new.self _ _ _ c.in_ok-cell.cell (longer (goal.at.returns-clause-values c).In_ok-cells) c.default_cell.ensures.grows c.requires.column.numbered _ c.in_ok-cell.ensures.value

pub returns-clause-column : goal.returns-clause-column
returns-clause-column c = record {
  kept = c.in_ok-cells.ensures.kept;
  numbered = numbered_continue c.args.names.now c.default_cell.new.self _ _ _ c.in_ok-cell.cell (longer (goal.at.returns-clause-column c).In_ok-cells) c.default_cell.ensures.grows c.requires.column.numbered c.in_ok-cell.ensures.numbered;
}
