use Rattle.std.proofs.Common.{◌≡◌, ◌∙◌, length, sym, ap, arith}
use Rattle.sop_model.specs.Vertices.{first_vertex_in}
use Rattle.sop_model.proofs.VerticesLemmas.{length-corners_of}
use Rattle.sop_model.proofs.primitives.PrimList.vertices.Goals as goal

pub returns : goal.returns
returns c =
    let prims = c.args.self.now in
    let all : c.len.result ≡ length prims = omega (arith, c.len.ensures, c.self.inside.prims.ok.0, ap length c.self.view_is) in
    c.first_vertex.ensures ∙ ap (first_vertex_in prims) all ∙ sym (length-corners_of prims)
