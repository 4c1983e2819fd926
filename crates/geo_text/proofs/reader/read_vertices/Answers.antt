use Rattle.std.proofs.Common.{ap, ◌∙◌}
use Rattle.std.specs.List.{push}
use Rattle.geo_text.specs.ObjMeaning.{map_ok}
use Rattle.geo_text.specs.ObjRun.{vertex_by, vertex_said}
use Rattle.geo_text.specs.ObjScan.{words_here}
use Rattle.geo_text.proofs.ObjReader.{vertices_more}
use Rattle.geo_text.proofs.reader.read_vertices.Goals as goal

pub loop-word-preserved : goal.loop-word-preserved
loop-word-preserved c = λ line.
    let t = c.args.totals.now in
    let (word, words, said) = c.in-Some.ensures.words in
    let added = ap (λ r. map_ok (push c.loop-word.vertices.items) (vertex_said line t.counts c.args.so_far.now t.textures.items t.normals.items r)) said ∙ c.in_ok-add_vertex.ensures.ok line in
    vertices_more (vertex_by line t.counts c.args.so_far.now t.textures.items t.normals.items) (words_here c.loop-word.rest.now) word (words_here c.in-Some.more.now)
    c.loop-word.vertices.items c.add_vertex.new.vertices.items _ words added (c.loop-word.invariant line)
