use Rattle.std.proofs.Common.{◌∙◌, length, get_or, ap, sym, arith}
use Rattle.sop_model.specs.Sweep.{is_marked}
use Rattle.sop_shape.specs.Tests.{flags_of, gives_up, grows, is_touched, point_test, vertex_test}
use Rattle.sop_shape.proofs.ReadLemmas.{ends_within}
use Rattle.sop_shape.proofs.StayLemmas.{length-flags, owners_many, owners_small, staying_vertices, staying_points, staying_prims}
use Rattle.sop_shape.proofs.staying.what_stays.Goals as goal

pub vertices_left-requires-clause-many : goal.vertices_left-requires-clause-many
vertices_left-requires-clause-many c = owners_many c.args.shape.now c.known.ensures c.as_slice.result.now (c.as_slice.ensures.value ∙ c.in_ok-owners.ensures c.known.ensures.geo c.known.ensures.has) ∙ sym (ap length c.refers-refers.ensures)

pub vertices_left-requires-clause-owners : goal.vertices_left-requires-clause-owners
vertices_left-requires-clause-owners c = owners_small c.args.shape.now c.known.ensures c.as_slice.result.now (c.as_slice.ensures.value ∙ c.in_ok-owners.ensures c.known.ensures.geo c.known.ensures.has) (length c.args.marks.now.prims) c.requires.prims

pub giving_up-requires-clause-prims : goal.giving_up-requires-clause-prims
giving_up-requires-clause-prims c = owners_small c.args.shape.now c.known.ensures c.as_slice-2.result.now (c.as_slice-2.ensures.value ∙ c.in_ok-owners.ensures c.known.ensures.geo c.known.ensures.has) (length c.args.marks.now.prims) c.requires.prims

pub points_left-requires-clause-giving_up : goal.points_left-requires-clause-giving_up
points_left-requires-clause-giving_up c =
    ap length (c.as_slice-3.ensures.value ∙ c.in_ok-given_up.ensures) ∙ length-flags (gives_up c.args.marks.now c.as_slice-2.result.now) (length c.as_slice-2.result.now) ∙ owners_many c.args.shape.now c.known.ensures c.as_slice-2.result.now (c.as_slice-2.ensures.value ∙ c.in_ok-owners.ensures c.known.ensures.geo c.known.ensures.has) ∙ sym (ap length c.refers-refers.ensures)

pub points_left-requires-clause-staying : goal.points_left-requires-clause-staying
points_left-requires-clause-staying c =
    ap length (c.as_slice-4.ensures.value ∙ c.in_ok-vertices.ensures) ∙ length-flags (vertex_test c.args.marks.now c.as_slice.result.now c.refers-refers.result.now) (length c.refers-refers.result.now)

pub prims_left-requires-clause-ends : goal.prims_left-requires-clause-ends
prims_left-requires-clause-ends c k d lt =
    let long = ap length (c.as_slice-5.ensures.value ∙ c.in_ok-vertices.ensures) ∙ length-flags (vertex_test c.args.marks.now c.as_slice.result.now c.refers-refers.result.now) (length c.refers-refers.result.now) ∙ ap length c.refers-refers.ensures in
    let end = ends_within c.args.shape.now c.known.ensures k d (omega (arith, ap length c.ends.ensures)) in
    omega (arith, ap (λ es. get_or es k d) c.ends.ensures)

pub prims_left-requires-clause-few : goal.prims_left-requires-clause-few
prims_left-requires-clause-few c =
    let long = ap length (c.as_slice-5.ensures.value ∙ c.in_ok-vertices.ensures) ∙ length-flags (vertex_test c.args.marks.now c.as_slice.result.now c.refers-refers.result.now) (length c.refers-refers.result.now) ∙ ap length c.refers-refers.ensures in
    omega (arith, c.known.ensures.vertices)

pub returns-clause-points : goal.returns-clause-points
returns-clause-points c g has =
    let s = c.args.shape.now in
    let m = c.args.marks.now in
    let owners = c.as_slice.result.now in
    staying_points g s has m owners c.args.points c.in_ok-given_up.given_up.items c.in_ok-vertices.vertices.items c.in_ok-points.points.items (c.as_slice.ensures.value ∙ c.in_ok-owners.ensures g has) c.requires.points
    (c.in_ok-given_up.ensures ∙ ap (λ ns. flags_of (gives_up m ns) (length ns)) (c.as_slice-2.ensures.value ∙ sym c.as_slice.ensures.value) ∙ ap (flags_of (gives_up m owners)) (owners_many c.args.shape.now c.known.ensures c.as_slice.result.now (c.as_slice.ensures.value ∙ c.in_ok-owners.ensures c.known.ensures.geo c.known.ensures.has)))
    (staying_vertices g s has m owners c.in_ok-vertices.vertices.items (c.as_slice.ensures.value ∙ c.in_ok-owners.ensures g has) (c.in_ok-vertices.ensures ∙ ap (λ rs. flags_of (vertex_test m owners rs) (length rs)) c.refers-refers.ensures))
    (c.in_ok-points.ensures ∙ ap (λ rs. flags_of (point_test m.points (is_touched c.as_slice-3.result.now rs) (is_touched c.as_slice-4.result.now rs)) (length m.points)) c.refers-refers.ensures
    ∙ ap (λ fs. flags_of (point_test m.points (is_touched fs s.refers) (is_touched c.as_slice-4.result.now s.refers)) (length m.points)) c.as_slice-3.ensures.value
    ∙ ap (λ fs. flags_of (point_test m.points (is_touched c.in_ok-given_up.given_up.items s.refers) (is_touched fs s.refers)) (length m.points)) c.as_slice-4.ensures.value)

pub returns-clause-vertices : goal.returns-clause-vertices
returns-clause-vertices c g has =
    let s = c.args.shape.now in
    let m = c.args.marks.now in
    let owners = c.as_slice.result.now in
    (staying_vertices g s has m owners c.in_ok-vertices.vertices.items (c.as_slice.ensures.value ∙ c.in_ok-owners.ensures g has) (c.in_ok-vertices.ensures ∙ ap (λ rs. flags_of (vertex_test m owners rs) (length rs)) c.refers-refers.ensures))

pub returns-clause-prims : goal.returns-clause-prims
returns-clause-prims c g has =
    let s = c.args.shape.now in
    let m = c.args.marks.now in
    let owners = c.as_slice.result.now in
    staying_prims g s has m c.in_ok-vertices.vertices.items c.in_ok-prims.prims.items (staying_vertices g s has m owners c.in_ok-vertices.vertices.items (c.as_slice.ensures.value ∙ c.in_ok-owners.ensures g has) (c.in_ok-vertices.ensures ∙ ap (λ rs. flags_of (vertex_test m owners rs) (length rs)) c.refers-refers.ensures))
    (c.in_ok-prims.ensures ∙ ap (λ fs. grows (is_marked fs) 0 c.ends.result.now) c.as_slice-5.ensures.value ∙ ap (grows (is_marked c.in_ok-vertices.vertices.items) 0) c.ends.ensures)
