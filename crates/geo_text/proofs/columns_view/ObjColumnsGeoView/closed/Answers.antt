use Rattle.std.proofs.Common.{◌≡◌, length, get_or, ap, arith, rules, subst, ◌∙◌}
use Rattle.std.specs.Prelude.{vec_len}
use Rattle.geo_text.specs.ObjColumns.{AreComplete}
use Rattle.geo_text.proofs.ObjColumnReading.{prims_long, outline_there, closed_read}
use Rattle.geo_text.proofs.columns_view.ObjColumnsGeoView.closed.Goals as goal

pub index-requires : goal.index-requires
index-requires c =
    let s = c.args.self.now in
    let filled = subst AreComplete c.self.view_is c.self.invariant in
    let long : vec_len c.self.inside.outlines ≡ length c.self.inside.outlines.items = search rules in
    omega (arith, long, outline_there s c.args.prim filled (omega (arith, c.requires.in_range, prims_long s filled)), ap (λ t. length t.outlines) c.self.view_is)

pub returns : goal.returns
returns c =
    let s = c.args.self.now in
    let filled = subst AreComplete c.self.view_is c.self.invariant in
    let o = c.index.result.now in
    closed_read s c.args.prim o filled (omega (arith, c.requires.in_range, prims_long s filled)) (c.index.ensures ∙ ap (λ t. get_or t.outlines c.args.prim o) c.self.view_is)
