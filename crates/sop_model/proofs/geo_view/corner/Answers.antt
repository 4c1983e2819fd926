use Rattle.std.proofs.Common.{arith, ◌∙◌, ap, ◌≡◌, ◌-◌}
use Rattle.std.specs.Prelude.{slice_get}
use Rattle.sop_model.specs.Vertices.{first_vertex_in}
use Rattle.sop_model.proofs.VerticesLemmas.{vertex_found}
use Rattle.sop_model.proofs.geo_view.corner.Goals as goal

pub first_vertex-first-requires : goal.first_vertex-first-requires
first_vertex-first-requires c =
    let at = vertex_found c.args.prims.now c.args.vertex _ _ c.requires c.from-number.ensures c.prim_of-prim.ensures in
    omega (arith, at.in_range)

pub get-requires : goal.get-requires
get-requires c =
    let at = vertex_found c.args.prims.now c.args.vertex _ _ c.requires c.from-number.ensures c.prim_of-prim.ensures in
    omega (arith, at.in_range)

pub overflow_sub-number : goal.overflow_sub-number
overflow_sub-number c =
    let at = vertex_found c.args.prims.now c.args.vertex _ _ c.requires c.from-number.ensures c.prim_of-prim.ensures in
    omega (arith, at.first)

pub get-requires-2 : goal.get-requires-2
get-requires-2 c =
    let at = vertex_found c.args.prims.now c.args.vertex _ _ c.requires c.from-number.ensures c.prim_of-prim.ensures in
    omega (arith, at.inside c.get.result.now c.get.ensures)

pub returns : goal.returns
returns c =
    let at = vertex_found c.args.prims.now c.args.vertex _ _ c.requires c.from-number.ensures c.prim_of-prim.ensures in
    let place : c.args.vertex - first_vertex_in c.args.prims.now c.prim_of-prim.result ≡ c.from-number.result - c.first_vertex-first.result = omega arith in
    at.same c.get.result.now c.get.ensures ∙ ap (slice_get c.get.result.now.corners) place ∙ c.get-2.ensures
