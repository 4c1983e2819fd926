use Rattle.std.proofs.Common.{ap, ◌∙◌}
use Rattle.std.specs.Prelude.{filter}
use Rattle.std.specs.Ordering.{is_lt}
use Rattle.sop_nearest.specs.Cells.{cell_cmp}
use Rattle.sop_nearest.proofs.Grid.{row_is}
use Rattle.sop_nearest.proofs.cells.row.Goals as goal

pub returns : goal.returns
returns c =
    c.until.ensures ∙ ap (filter (λ s. is_lt (cell_cmp s.cell (record { x = c.args.x; y = c.args.y; z = c.args.z.end })))) c.from.ensures.value ∙ row_is c.args.spots.now c.args.x c.args.y c.args.z
