use Rattle.std.proofs.Common.{◌≡◌, ◌∙◌, ap, map, List}
use Rattle.std.specs.Prelude.{slice_index_or}
use Rattle.sop_pages.specs.declared.cell.Cell.TheVariants as cell
use Rattle.sop_cells.specs.declared.place.Place.{Place}
use Rattle.sop_cells.specs.Shelves.{column}
use Rattle.sop_columns.proofs.ValueLemmas.{values_picked, numbered_picked}
use Rattle.sop_columns.proofs.column.Column.picked.Goals as goal
use Rattle.sop_columns.proofs.column.Column.picked.Goals.{In_ok-cells}

picked_cells : (c : In_ok-cells) → column c.picked.new.shelf c.in_ok-cells.cells ≡ map (λ i. slice_index_or (column c.args.shelf.now c.args.self.now) i (cell.Name 0)) c.args.numbers.now
picked_cells c = c.in_ok-cells.ensures.cells ∙ ap (λ (p : List Place). map (λ i. slice_index_or (column c.args.shelf.now p) i (cell.Name 0)) c.args.numbers.now) c.self.view_is

pub returns-clause-values : goal.returns-clause-values
returns-clause-values c = values_picked _ _ (cell.Name 0) _ c.requires.within (picked_cells (goal.at.returns-clause-values c).In_ok-cells)

pub returns-clause-column : goal.returns-clause-column
returns-clause-column c = λ names a. record { kept = c.in_ok-cells.ensures.kept; numbered = numbered_picked _ _ (cell.Name 0) _ c.requires.within (picked_cells (goal.at.returns-clause-column c).In_ok-cells) names a.numbered }
