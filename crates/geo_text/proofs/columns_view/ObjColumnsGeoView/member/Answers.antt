use Rattle.std.proofs.Common.{◌≡◌, ◌<◌, Some, length, get_or, ap, arith, rules, subst, sym, ◌∙◌}
use Rattle.std.specs.Prelude.{vec_len}
use Rattle.sop_model.specs.declared.class.Class.TheVariants.{Prim}
use Rattle.sop_model.specs.Geometry.{heads_of, count_of, flag_at}
use Rattle.geo_text.specs.ObjColumns.{columns_geo, AreComplete}
use Rattle.geo_text.proofs.ObjColumnReading.{prim_count, outline_there, member_read}
use Rattle.geo_text.proofs.columns_view.ObjColumnsGeoView.member.Goals as goal

pub index-requires : goal.index-requires
index-requires c =
    let s = c.args.self.now in
    let filled = subst AreComplete c.self.view_is c.self.invariant in
    let long : vec_len c.self.inside.outlines ≡ length c.self.inside.outlines.items = search rules in
    let lt = subst (λ class. c.args.element < count_of (columns_geo s) class) c.in-Prim.is c.requires.element in
    omega (arith, long, outline_there s c.args.element filled (omega (arith, lt, prim_count s filled)), ap (λ t. length t.outlines) c.self.view_is)

pub returns : goal.returns
returns c =
    let s = c.args.self.now in
    let filled = subst AreComplete c.self.view_is c.self.invariant in
    let o = c.index.result.now in
    let lt = subst (λ class. c.args.element < count_of (columns_geo s) class) c.in-Prim.is c.requires.element in
    let few = subst (λ class. c.args.group < length (heads_of (columns_geo s) class).groups) c.in-Prim.is c.requires.group in
    let read = member_read s c.args.group c.args.element o filled c.requires.readable.sound few (omega (arith, lt, prim_count s filled)) (c.index.ensures ∙ ap (λ t. get_or t.outlines c.args.element o) c.self.view_is) in
    ap (λ class. flag_at (columns_geo s) class c.args.group c.args.element) c.in-Prim.is ∙ read ∙ ap Some (sym c.is_member.ensures)
