use Rattle.std.proofs.Common.{◌∙◌, List, ap, map, take}
use Rattle.sop_pages.specs.declared.cell.Cell.{Cell}
use Rattle.sop_model.specs.declared.value.Value.{Value}
use Rattle.sop_cells.specs.Shelves.{joined, column}
use Rattle.sop_columns.specs.Names.{value_of}
use Rattle.sop_columns.specs.Fitted.{fitted_to}
use Rattle.sop_columns.proofs.NameLemmas.{values_grow}
use Rattle.sop_columns.proofs.column.Column.converted.Goals as goal

pub returns-in-Ok-clause-values : goal.returns-in-Ok-clause-values
returns-in-Ok-clause-values c =
    ap (λ (pages : List (List Cell)). map (value_of c.converted_pages.new.names) (joined pages)) c.in-Ok.ensures.blocks ∙ c.in_ok-pages.ensures.stands.values
    ∙ ap (λ (vs : List Value). map (fitted_to c.args.kind) (take c.args.len vs)) (values_grow c.args.names.now c.default_cell.new.self (column c.args.shelf.now c.args.self.now) c.default_cell.ensures.grows c.requires.column.numbered)

pub returns-in-Ok-clause-column : goal.returns-in-Ok-clause-column
returns-in-Ok-clause-column c = c.in-Ok.ensures.column c.converted_pages.new.names c.in_ok-pages.ensures.stands.numbered
