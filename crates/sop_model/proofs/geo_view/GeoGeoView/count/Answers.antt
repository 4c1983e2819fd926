use Rattle.std.proofs.Common.{◌≡◌, ◌∙◌, sym, ap}
use Rattle.std.proofs.lemmas.List.{length-map}
use Rattle.sop_model.specs.declared.class.Class.TheVariants.{Vertex}
use Rattle.sop_model.specs.Geometry.{count_of}
use Rattle.sop_model.specs.Vertices.{corners_of}
use Rattle.sop_model.proofs.geo_view.GeoGeoView.count.Goals as goal

pub returns-in-Vertex : goal.returns-in-Vertex
returns-in-Vertex c =
    let class : c.args.class ≡ Vertex = c.in-Vertex.is in
    c.vertices.ensures ∙ sym (length-map (corners_of c.args.self.now.prims) (λ k. k.row)) ∙ ap (count_of c.args.self.now) (sym class)
