use Rattle.std.proofs.Common.{◌≡◌, length, get_or, ap, arith, rules, subst, refl, ◌∙◌}
use Rattle.std.specs.Prelude.{vec_len}
use Rattle.geo_text.specs.ObjColumns.{AreComplete}
use Rattle.geo_text.proofs.ObjColumnReading.{prims_long, ends_ordered, size_read}
use Rattle.geo_text.proofs.columns_view.ObjColumnsGeoView.size.Goals as goal

pub index-requires : goal.index-requires
index-requires c =
    let s = c.args.self.now in
    let filled = subst AreComplete c.self.view_is c.self.invariant in
    let long : vec_len c.self.inside.ends ≡ length c.self.inside.ends.items = search rules in
    omega (arith, long, c.requires.in_range, prims_long s filled, ap (λ t. length t.ends) c.self.view_is)

pub overflow_sub-result : goal.overflow_sub-result
overflow_sub-result c =
    let s = c.args.self.now in
    let filled = subst AreComplete c.self.view_is c.self.invariant in
    let end = c.index.result.now in
    ends_ordered s c.args.prim c.first_vertex.result end filled (omega (arith, c.requires.in_range, prims_long s filled)) c.first_vertex.ensures (c.index.ensures ∙ ap (λ t. get_or t.ends c.args.prim end) c.self.view_is)

pub returns : goal.returns
returns c =
    let s = c.args.self.now in
    let filled = subst AreComplete c.self.view_is c.self.invariant in
    let end = c.index.result.now in
    size_read s c.args.prim c.first_vertex.result end _ filled (omega (arith, c.requires.in_range, prims_long s filled)) c.first_vertex.ensures (c.index.ensures ∙ ap (λ t. get_or t.ends c.args.prim end) c.self.view_is) refl
