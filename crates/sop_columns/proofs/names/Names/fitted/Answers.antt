use Rattle.std.proofs.Common.{◌∙◌, ap}
use Rattle.sop_columns.specs.Fitted.{fitted_to}
use Rattle.sop_columns.proofs.NameLemmas.{value_grows}
use Rattle.sop_columns.proofs.names.Names.fitted.Goals as goal

pub returns-clause-value : goal.returns-clause-value
returns-clause-value c = c.in_ok-new.ensures.value ∙ ap (fitted_to c.args.kind) (value_grows c.args.self.now c.default_cell.new.self c.args.cell c.default_cell.ensures.grows c.requires)
