use Rattle.std.proofs.Common.{◌≡◌, length, get_or, ap, arith, rules, subst, sym, ◌∙◌}
use Rattle.std.specs.Prelude.{vec_len}
use Rattle.geo_text.specs.ObjColumns.{AreComplete}
use Rattle.geo_text.proofs.ObjColumnReading.{vertex_total, texture_there, texture_read, normal_there, normal_read}
use Rattle.geo_text.proofs.columns.ObjColumns.vertex_vector.Goals as goal

pub index-requires : goal.index-requires
index-requires c =
    let s = c.args.self.now in
    let filled = subst AreComplete c.self.view_is c.self.invariant in
    let long : vec_len c.self.inside.vertices.textures ≡ length c.self.inside.vertices.textures.items = search rules in
    let there = texture_there s c.args.head c.args.vertex filled (omega (arith, c.requires.vertex, vertex_total s filled)) (sym c.is_texture.ensures ∙ c.if-is_texture.true) in
    omega (arith, long, there, ap (λ t. length t.textures) c.self.view_is)

pub index-requires-else-is_texture : goal.index-requires-else-is_texture
index-requires-else-is_texture c =
    let s = c.args.self.now in
    let filled = subst AreComplete c.self.view_is c.self.invariant in
    let long : vec_len c.self.inside.vertices.normals ≡ length c.self.inside.vertices.normals.items = search rules in
    let there = normal_there s c.args.head c.args.vertex filled c.requires.head (omega (arith, c.requires.vertex, vertex_total s filled)) (sym c.is_texture.ensures ∙ c.if-is_texture.false) in
    omega (arith, long, there, ap (λ t. length t.normals) c.self.view_is)

pub returns-then-is_texture : goal.returns-then-is_texture
returns-then-is_texture c =
    let s = c.args.self.now in
    let filled = subst AreComplete c.self.view_is c.self.invariant in
    let v = c.index.result.now in
    texture_read s c.args.head c.args.vertex v filled (omega (arith, c.requires.vertex, vertex_total s filled)) (sym c.is_texture.ensures ∙ c.if-is_texture.true) (c.index.ensures ∙ ap (λ t. get_or t.textures c.args.vertex v) c.self.view_is)

pub returns-else-is_texture : goal.returns-else-is_texture
returns-else-is_texture c =
    let s = c.args.self.now in
    let filled = subst AreComplete c.self.view_is c.self.invariant in
    let v = c.index-else-is_texture.result.now in
    normal_read s c.args.head c.args.vertex v filled c.requires.head (omega (arith, c.requires.vertex, vertex_total s filled)) (sym c.is_texture.ensures ∙ c.if-is_texture.false)
    (c.index-else-is_texture.ensures ∙ ap (λ t. get_or t.normals c.args.vertex v) c.self.view_is)
