use Rattle.std.proofs.Common.{◌<◌, ◌∙◌, ℕ, length, ap, sym, subst}
use Rattle.sop_shape.specs.Shapes.{ShapeLists, HasShape}
use Rattle.sop_sheets.proofs.ViewLemmas.{prims_in, shape_in}
use Rattle.sop_sheets.proofs.view.GeoRefGeoView.size.Goals as goal

pub size-requires : goal.size-requires
size-requires c =
    subst (λ (k : ℕ). c.args.prim < k) (sym (ap (λ (shape : ShapeLists). length shape.closed) c.shape.ensures ∙ prims_in c.self.inside.shelf.now c.self.inside.names.now c.self.inside.sheet.now c.self.invariant.0 c.args.self.now c.self.view_is)) c.requires.in_range

pub returns : goal.returns
returns c = c.size.ensures c.args.self.now (subst (HasShape c.args.self.now) (sym c.shape.ensures) (shape_in c.self.inside.shelf.now c.self.inside.names.now c.self.inside.sheet.now c.self.invariant.0 c.args.self.now c.self.view_is))
