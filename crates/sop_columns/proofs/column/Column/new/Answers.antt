use Rattle.std.proofs.Common.{◌∙◌, ap, map, replicate}
use Rattle.sop_columns.specs.Names.{value_of}
use Rattle.sop_columns.proofs.ValueLemmas.{map_replicate}
use Rattle.sop_columns.proofs.column.Column.new.Goals as goal

pub returns-clause-values : goal.returns-clause-values
returns-clause-values c = ap (map (value_of c.default_cell.new.self)) c.in_ok-cells.ensures.cells ∙ map_replicate (value_of c.default_cell.new.self) c.args.len c.in_ok-cell.cell ∙ ap (replicate c.args.len) c.in_ok-cell.ensures.value
