use Rattle.std.proofs.Common.{◌≡◌, length, ap, arith, rules, subst, sym, ◌∙◌}
use Rattle.std.specs.Prelude.{vec_len}
use Rattle.sop_model.specs.declared.class.Class.TheVariants.{Prim}
use Rattle.sop_model.specs.Geometry.{count_of}
use Rattle.sop_model.proofs.LimitsLemmas.{within_points, within_prims}
use Rattle.geo_text.specs.ObjColumns.{columns_geo, AreComplete}
use Rattle.geo_text.proofs.ObjColumnReading.{point_count, prims_long, prim_count, vertex_total}
use Rattle.geo_text.proofs.columns_view.ObjColumnsGeoView.count.Goals as goal

pub overflow_cast-result : goal.overflow_cast-result
overflow_cast-result c =
    let s = c.args.self.now in
    let filled = subst AreComplete c.self.view_is c.self.invariant in
    let long : vec_len c.self.inside.ends ≡ length c.self.inside.ends.items = search rules in
    omega (arith, long, c.len.ensures, prims_long s filled, within_prims c.requires.within, ap (λ t. length t.ends) c.self.view_is)

pub overflow_cast-result-in-Point : goal.overflow_cast-result-in-Point
overflow_cast-result-in-Point c =
    let s = c.args.self.now in
    let long : vec_len c.self.inside.places ≡ length c.self.inside.places.items = search rules in
    omega (arith, long, c.len-in-Point.ensures, point_count s, within_points c.requires.within, ap (λ t. length t.places) c.self.view_is)

pub returns-in-Prim : goal.returns-in-Prim
returns-in-Prim c =
    let s = c.args.self.now in
    let filled = subst AreComplete c.self.view_is c.self.invariant in
    let long : vec_len c.self.inside.ends ≡ length c.self.inside.ends.items = search rules in
    c.len.ensures ∙ long ∙ ap (λ t. length t.ends) c.self.view_is ∙ sym (prim_count s filled) ∙ ap (count_of (columns_geo s)) (sym c.in-Prim.is)

pub returns-in-Point : goal.returns-in-Point
returns-in-Point c =
    let s = c.args.self.now in
    let long : vec_len c.self.inside.places ≡ length c.self.inside.places.items = search rules in
    c.len-in-Point.ensures ∙ long ∙ ap (λ t. length t.places) c.self.view_is ∙ sym (point_count s) ∙ ap (count_of (columns_geo s)) (sym c.in-Point.is)

pub returns-in-Vertex : goal.returns-in-Vertex
returns-in-Vertex c =
    let s = c.args.self.now in
    let filled = subst AreComplete c.self.view_is c.self.invariant in
    c.vertex_count.ensures ∙ sym (vertex_total s filled) ∙ ap (count_of (columns_geo s)) (sym c.in-Vertex.is)
