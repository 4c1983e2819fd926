use Rattle.std.proofs.Common.{◌≡◌, length, get_or, ap, arith, rules, subst, ◌∙◌}
use Rattle.std.specs.Prelude.{vec_len}
use Rattle.geo_text.specs.ObjColumns.{AreComplete}
use Rattle.geo_text.proofs.ObjColumnReading.{point_count, place_read, colour_there, colour_read}
use Rattle.geo_text.proofs.columns.ObjColumns.point_vector.Goals as goal

pub index-requires : goal.index-requires
index-requires c =
    let long : vec_len c.self.inside.places ≡ length c.self.inside.places.items = search rules in
    omega (arith, long, c.requires.point, point_count c.args.self.now, ap (λ s. length s.places) c.self.view_is)

pub index-requires-else-head-eq0 : goal.index-requires-else-head-eq0
index-requires-else-head-eq0 c =
    let s = c.args.self.now in
    let long : vec_len c.self.inside.colours ≡ length c.self.inside.colours.items = search rules in
    let there = colour_there s c.args.head c.args.point (subst AreComplete c.self.view_is c.self.invariant) c.requires.head c.if-head-eq0.false (omega (arith, c.requires.point, point_count s)) in
    omega (arith, long, there, ap (λ t. length t.colours) c.self.view_is)

pub returns-then-head-eq0 : goal.returns-then-head-eq0
returns-then-head-eq0 c =
    let s = c.args.self.now in
    let v = c.index.result.now in
    place_read s c.args.head c.args.point v (omega (arith, c.requires.point, point_count s)) c.if-head-eq0.true (c.index.ensures ∙ ap (λ t. get_or t.places c.args.point v) c.self.view_is)

pub returns-else-head-eq0 : goal.returns-else-head-eq0
returns-else-head-eq0 c =
    let s = c.args.self.now in
    let v = c.index-else-head-eq0.result.now in
    colour_read s c.args.head c.args.point v (subst AreComplete c.self.view_is c.self.invariant) c.requires.head c.if-head-eq0.false (omega (arith, c.requires.point, point_count s))
    (c.index-else-head-eq0.ensures ∙ ap (λ t. get_or t.colours c.args.point v) c.self.view_is)
