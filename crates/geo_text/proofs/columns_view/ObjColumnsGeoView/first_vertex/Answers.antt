use Rattle.std.proofs.Common.{◌≡◌, ◌-◌, length, get_or, ap, arith, rules, subst, ◌∙◌}
use Rattle.std.specs.Prelude.{vec_len}
use Rattle.sop_model.proofs.VerticesLemmas.{end_before}
use Rattle.geo_text.specs.ObjColumns.{columns_geo, AreComplete}
use Rattle.geo_text.proofs.ObjColumnReading.{ends_are, prims_long}
use Rattle.geo_text.proofs.columns_view.ObjColumnsGeoView.first_vertex.Goals as goal

pub index-requires : goal.index-requires
index-requires c =
    let s = c.args.self.now in
    let filled = subst AreComplete c.self.view_is c.self.invariant in
    let long : vec_len c.self.inside.ends ≡ length c.self.inside.ends.items = search rules in
    omega (arith, long, c.requires.in_range, prims_long s filled, ap (λ t. length t.ends) c.self.view_is)

pub returns-else-prim-eq0 : goal.returns-else-prim-eq0
returns-else-prim-eq0 c =
    let s = c.args.self.now in
    let filled = subst AreComplete c.self.view_is c.self.invariant in
    let end = c.index.result.now in
    end_before s.ends (columns_geo s).prims c.args.prim end (ends_are s filled) (omega (arith, c.if-prim-eq0.false)) (omega (arith, c.requires.in_range)) (c.index.ensures ∙ ap (λ t. get_or t.ends (c.args.prim - 1) end) c.self.view_is)
