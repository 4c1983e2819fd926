use Rattle.std.proofs.Common.{◌≡◌, ◌∙◌, ◌++◌, take}
use Rattle.sop_cells.specs.Shelves.{column}
use Rattle.sop_columns.proofs.ValueLemmas.{values_joined, numbered_joined}
use Rattle.sop_columns.proofs.column.Column.appended.Goals as goal
use Rattle.sop_columns.proofs.column.Column.appended.Goals.{In_ok-cells}

joined_cells : (c : In_ok-cells) → column c.appended.new.shelf c.in_ok-cells.cells ≡ take c.args.len (column c.args.shelf.now c.args.self.now) ++ take c.args.more_len (column c.args.shelf.now c.args.more.now)
joined_cells c = c.in_ok-cells.ensures.cells ∙ (λ i. take c.args.len (column c.args.shelf.now (c.self.view_is i)) ++ take c.args.more_len (column c.args.shelf.now (c.more.view_is i)))

pub returns-clause-values : goal.returns-clause-values
returns-clause-values c = values_joined _ _ _ _ _ (joined_cells (goal.at.returns-clause-values c).In_ok-cells)

pub returns-clause-column : goal.returns-clause-column
returns-clause-column c = λ names a b. record { kept = c.in_ok-cells.ensures.kept; numbered = numbered_joined _ _ _ _ _ (joined_cells (goal.at.returns-clause-column c).In_ok-cells) names a.numbered b.numbered }
