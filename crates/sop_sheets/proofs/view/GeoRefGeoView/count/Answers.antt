use Rattle.std.proofs.Common.{◌∙◌}
use Rattle.sop_sheets.proofs.ViewLemmas.{count_in}
use Rattle.sop_sheets.proofs.view.GeoRefGeoView.count.Goals as goal

pub returns : goal.returns
returns c = c.count.ensures ∙ count_in c.self.inside.shelf.now c.self.inside.names.now c.self.inside.sheet.now c.self.invariant.0 c.args.self.now c.self.view_is c.args.class
