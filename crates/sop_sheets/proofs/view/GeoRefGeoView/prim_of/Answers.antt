use Rattle.std.proofs.Common.{◌<◌, ◌∙◌, ℕ, length, ap, sym, subst}
use Rattle.sop_shape.specs.Shapes.{ShapeLists, HasShape}
use Rattle.sop_sheets.proofs.ViewLemmas.{vertices_in, shape_in}
use Rattle.sop_sheets.proofs.view.GeoRefGeoView.prim_of.Goals as goal

pub prim_of-requires : goal.prim_of-requires
prim_of-requires c =
    subst (λ (k : ℕ). c.args.vertex < k) (sym (ap (λ (shape : ShapeLists). length shape.refers) c.shape.ensures ∙ vertices_in c.self.inside.shelf.now c.self.inside.names.now c.self.inside.sheet.now c.self.invariant.0 c.args.self.now c.self.view_is)) c.requires.in_range

pub returns : goal.returns
returns c = c.prim_of.ensures c.args.self.now (subst (HasShape c.args.self.now) (sym c.shape.ensures) (shape_in c.self.inside.shelf.now c.self.inside.names.now c.self.inside.sheet.now c.self.invariant.0 c.args.self.now c.self.view_is))
