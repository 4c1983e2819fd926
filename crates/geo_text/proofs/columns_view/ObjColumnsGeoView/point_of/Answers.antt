use Rattle.std.proofs.Common.{◌≡◌, length, get_or, ap, arith, rules, subst, ◌∙◌}
use Rattle.std.specs.Prelude.{vec_len}
use Rattle.geo_text.specs.ObjColumns.{AreComplete}
use Rattle.geo_text.proofs.ObjColumnReading.{corners_long, refer_read}
use Rattle.geo_text.proofs.columns_view.ObjColumnsGeoView.point_of.Goals as goal

pub index-requires : goal.index-requires
index-requires c =
    let s = c.args.self.now in
    let filled = subst AreComplete c.self.view_is c.self.invariant in
    let long : vec_len c.self.inside.vertices.refers ≡ length c.self.inside.vertices.refers.items = search rules in
    omega (arith, long, c.requires.in_range, corners_long s filled, filled.refers, ap (λ t. length t.refers) c.self.view_is)

pub returns : goal.returns
returns c =
    let s = c.args.self.now in
    let filled = subst AreComplete c.self.view_is c.self.invariant in
    let point = c.index.result.now in
    refer_read s c.args.vertex point filled (omega (arith, c.requires.in_range, corners_long s filled)) (c.index.ensures ∙ ap (λ t. get_or t.refers c.args.vertex point) c.self.view_is)
