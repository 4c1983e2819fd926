use Rattle.std.proofs.Common.{◌∙◌, ◌<◌, false, length, map, ap, sym, subst}
use Rattle.std.specs.Prelude.{All}
use Rattle.std.proofs.lemmas.List.{length-replicate}
use Rattle.std.proofs.lemmas.List.Elements.{All-map}
use Rattle.sop_model.specs.declared.class.Class.TheVariants.{Prim, Point, Vertex}
use Rattle.sop_model.specs.declared.geo.Corner.{Corner}
use Rattle.sop_model.specs.Geometry.{count_of}
use Rattle.sop_model.specs.Vertices.{corners_of}
use Rattle.sop_shape.proofs.ReadLemmas.{refers_is, count_prims, count_vertices}
use Rattle.sop_shape.proofs.tests.is_left.Goals as goal

pub kept-requires-clause-points : goal.kept-requires-clause-points
kept-requires-clause-points c = ap (λ m. length m.points) c.in_ok-marks.ensures ∙ length-replicate (count_of c.args.geo.now Point) false ∙ sym c.count.ensures

pub kept-requires-clause-vertices : goal.kept-requires-clause-vertices
kept-requires-clause-vertices c =
    ap (λ m. length m.vertices) c.in_ok-marks.ensures ∙ length-replicate (count_of c.args.geo.now Vertex) false ∙ sym (count_vertices c.args.geo.now c.in_ok-shape.shape c.in_ok-shape.ensures)

pub kept-requires-clause-prims : goal.kept-requires-clause-prims
kept-requires-clause-prims c = ap (λ m. length m.prims) c.in_ok-marks.ensures ∙ length-replicate (count_of c.args.geo.now Prim) false ∙ sym (count_prims c.args.geo.now c.in_ok-shape.shape c.in_ok-shape.ensures)

pub kept-requires-clause-with_points : goal.kept-requires-clause-with_points
kept-requires-clause-with_points c = ap (λ m. length m.with_points) c.in_ok-marks.ensures ∙ length-replicate (count_of c.args.geo.now Prim) false ∙ sym (count_prims c.args.geo.now c.in_ok-shape.shape c.in_ok-shape.ensures)

pub kept-requires-clause-refers : goal.kept-requires-clause-refers
kept-requires-clause-refers c =
    let g = c.args.geo.now in
    subst (All (λ n. n < c.count.result)) (sym (refers_is g c.in_ok-shape.shape c.in_ok-shape.ensures))
    (subst (λ n. All (λ k. k < n) (map (λ c. c.point) (corners_of g.prims))) (sym c.count.ensures) (All-map (λ n. n < length g.points) (λ (c : Corner). c.point) (corners_of g.prims) c.requires.sound.points))
