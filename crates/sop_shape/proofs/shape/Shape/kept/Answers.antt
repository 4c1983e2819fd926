use Rattle.std.proofs.Common.{◌∙◌, ◌<◌, false, length, map, get_or, ap, sym, subst, arith}
use Rattle.std.specs.Prelude.{All}
use Rattle.std.specs.List.{range_with_len}
use Rattle.std.proofs.lemmas.List.{length-map}
use Rattle.sop_model.specs.declared.class.Class.TheVariants.{Prim, Point, Vertex}
use Rattle.sop_model.specs.Rows.{picked}
use Rattle.sop_model.specs.Sweep.{is_marked, how_many, stays, kept}
use Rattle.sop_shape.proofs.ReadLemmas.{ends_as_many, ends_within}
use Rattle.sop_shape.proofs.StayLemmas.{length-flags}
use Rattle.sop_shape.proofs.LeftLemmas.{places_within, places_few, has-swept, is-swept, points_left, vertices_left, prims_left}
use Rattle.sop_shape.proofs.shape.Shape.kept.Goals as goal

pub set_places-requires : goal.set_places-requires
set_places-requires c =
    let s = c.args.self.now in
    let m = c.args.marks.now in
    let is = c.known.ensures in
    let long = ap length c.as_slice.ensures.value ∙ (ap length (c.in_ok-staying.ensures.points is.geo is.has) ∙ length-flags (stays is.geo m Point) c.args.points) in
    omega arith

pub set_places-requires-2 : goal.set_places-requires-2
set_places-requires-2 c =
    let s = c.args.self.now in
    let m = c.args.marks.now in
    let is = c.known.ensures in
    let long = ap length c.as_slice-2.ensures.value ∙ (ap length (c.in_ok-staying.ensures.vertices is.geo is.has) ∙ length-flags (stays is.geo m Vertex) (length s.refers)) in
    omega (arith, is.vertices)

pub set_places-requires-3 : goal.set_places-requires-3
set_places-requires-3 c =
    let s = c.args.self.now in
    let m = c.args.marks.now in
    let is = c.known.ensures in
    let long = ap length c.as_slice-3.ensures.value ∙ (ap length (c.in_ok-staying.ensures.prims is.geo is.has) ∙ length-flags (stays is.geo m Prim) (length s.closed)) in
    omega (arith, is.prims)

pub pick-requires : goal.pick-requires
pick-requires c =
    let s = c.args.self.now in
    let m = c.args.marks.now in
    let is = c.known.ensures in
    let many = (ap length (c.in_ok-staying.ensures.prims is.geo is.has) ∙ length-flags (stays is.geo m Prim) (length s.closed)) ∙ sym (ap length c.closed_flags.ensures) in
    subst (λ n. All (λ k. k < n) c.as_slice-4.result.now) many (places_within (is_marked c.in_ok-staying.staying.prims.items) (length c.in_ok-staying.staying.prims.items) c.as_slice-4.result.now (c.as_slice-4.ensures.value ∙ (c.in_ok-prims.ensures ∙ ap (λ fs. kept (is_marked fs) 0 (range_with_len 0 (length fs))) c.as_slice-3.ensures.value)))

pub renumbered-requires-clause-places : goal.renumbered-requires-clause-places
renumbered-requires-clause-places c =
    let s = c.args.self.now in
    let m = c.args.marks.now in
    let is = c.known.ensures in
    let many = (ap length (c.in_ok-staying.ensures.prims is.geo is.has) ∙ length-flags (stays is.geo m Prim) (length s.closed)) ∙ sym (ends_as_many s is) ∙ sym (ap length c.ends.ensures) in
    subst (λ n. All (λ k. k < n) c.as_slice-5.result.now) many (places_within (is_marked c.in_ok-staying.staying.prims.items) (length c.in_ok-staying.staying.prims.items) c.as_slice-5.result.now (c.as_slice-5.ensures.value ∙ (c.in_ok-prims.ensures ∙ ap (λ fs. kept (is_marked fs) 0 (range_with_len 0 (length fs))) c.as_slice-3.ensures.value)))

pub renumbered-requires-clause-numbers : goal.renumbered-requires-clause-numbers
renumbered-requires-clause-numbers c k d lt =
    let s = c.args.self.now in
    let m = c.args.marks.now in
    let is = c.known.ensures in
    let long = ap length c.as_slice-6.ensures.value ∙ (ap length (c.in_ok-staying.ensures.vertices is.geo is.has) ∙ length-flags (stays is.geo m Vertex) (length s.refers)) in
    let end = ends_within s is k d (omega (arith, ap length c.ends.ensures)) in
    omega (arith, ap (λ es. get_or es k d) c.ends.ensures)

pub renumbered-requires-clause-few : goal.renumbered-requires-clause-few
renumbered-requires-clause-few c =
    let s = c.args.self.now in
    let m = c.args.marks.now in
    let is = c.known.ensures in
    let long = ap length c.as_slice-6.ensures.value ∙ (ap length (c.in_ok-staying.ensures.vertices is.geo is.has) ∙ length-flags (stays is.geo m Vertex) (length s.refers)) in
    omega (arith, is.vertices)

pub renumbered-requires-2-clause-places : goal.renumbered-requires-2-clause-places
renumbered-requires-2-clause-places c =
    let s = c.args.self.now in
    let m = c.args.marks.now in
    let is = c.known.ensures in
    let many = (ap length (c.in_ok-staying.ensures.vertices is.geo is.has) ∙ length-flags (stays is.geo m Vertex) (length s.refers)) ∙ sym (ap length c.refers.ensures) in
    subst (λ n. All (λ k. k < n) c.as_slice-7.result.now) many (places_within (is_marked c.in_ok-staying.staying.vertices.items) (length c.in_ok-staying.staying.vertices.items) c.as_slice-7.result.now (c.as_slice-7.ensures.value ∙ (c.in_ok-vertices.ensures ∙ ap (λ fs. kept (is_marked fs) 0 (range_with_len 0 (length fs))) c.as_slice-2.ensures.value)))

pub renumbered-requires-2-clause-numbers : goal.renumbered-requires-2-clause-numbers
renumbered-requires-2-clause-numbers c k d lt =
    let s = c.args.self.now in
    let m = c.args.marks.now in
    let is = c.known.ensures in
    let long = ap length c.as_slice-8.ensures.value ∙ (ap length (c.in_ok-staying.ensures.points is.geo is.has) ∙ length-flags (stays is.geo m Point) c.args.points) in
    let small = c.requires.refers k d (omega (arith, ap length c.refers.ensures)) in
    omega (arith, ap (λ ns. get_or ns k d) c.refers.ensures)

pub renumbered-requires-2-clause-few : goal.renumbered-requires-2-clause-few
renumbered-requires-2-clause-few c =
    let s = c.args.self.now in
    let m = c.args.marks.now in
    let is = c.known.ensures in
    let long = ap length c.as_slice-8.ensures.value ∙ (ap length (c.in_ok-staying.ensures.points is.geo is.has) ∙ length-flags (stays is.geo m Point) c.args.points) in
    omega arith

pub from_lists-requires : goal.from_lists-requires
from_lists-requires c =
    let s = c.args.self.now in
    let m = c.args.marks.now in
    let is = c.known.ensures in
    let has = has-swept is.geo s is.has m c.args.points c.in_ok-staying.staying.points.items c.in_ok-staying.staying.vertices.items c.in_ok-staying.staying.prims.items (c.in_ok-staying.ensures.points is.geo is.has) (c.in_ok-staying.ensures.vertices is.geo is.has) (c.in_ok-staying.ensures.prims is.geo is.has)
    c.in_ok-closed.closed.items c.in_ok-ends.ends.items c.in_ok-refers.refers.items c.in_ok-vertices.vertices.items c.in_ok-prims.prims.items c.requires.refers
    (c.in_ok-vertices.ensures ∙ ap (λ fs. kept (is_marked fs) 0 (range_with_len 0 (length fs))) c.as_slice-2.ensures.value)
    (c.in_ok-prims.ensures ∙ ap (λ fs. kept (is_marked fs) 0 (range_with_len 0 (length fs))) c.as_slice-3.ensures.value)
    (c.in_ok-closed.ensures false ∙ ap (λ xs. picked xs false c.as_slice-4.result.now) c.closed_flags.ensures ∙ ap (picked s.closed false) c.as_slice-4.ensures.value)
    (c.in_ok-ends.ensures ∙ ap (λ fs. map (how_many (is_marked fs)) (picked c.ends.result.now 0 c.as_slice-5.result.now)) c.as_slice-6.ensures.value ∙ ap (λ xs. map (how_many (is_marked c.in_ok-staying.staying.vertices.items)) (picked xs 0 c.as_slice-5.result.now)) c.ends.ensures ∙ ap (λ ps. map (how_many (is_marked c.in_ok-staying.staying.vertices.items)) (picked s.ends 0 ps)) c.as_slice-5.ensures.value)
    (c.in_ok-refers.ensures ∙ ap (λ fs. map (how_many (is_marked fs)) (picked c.refers.result.now 0 c.as_slice-7.result.now)) c.as_slice-8.ensures.value ∙ ap (λ xs. map (how_many (is_marked c.in_ok-staying.staying.points.items)) (picked xs 0 c.as_slice-7.result.now)) c.refers.ensures ∙ ap (λ ps. map (how_many (is_marked c.in_ok-staying.staying.points.items)) (picked s.refers 0 ps)) c.as_slice-7.ensures.value) in
    let few_prims = places_few (is_marked c.in_ok-staying.staying.prims.items) (length c.in_ok-staying.staying.prims.items) c.in_ok-prims.prims.items (c.in_ok-prims.ensures ∙ ap (λ fs. kept (is_marked fs) 0 (range_with_len 0 (length fs))) c.as_slice-3.ensures.value) in
    let few_vertices = places_few (is_marked c.in_ok-staying.staying.vertices.items) (length c.in_ok-staying.staying.vertices.items) c.in_ok-vertices.vertices.items (c.in_ok-vertices.ensures ∙ ap (λ fs. kept (is_marked fs) 0 (range_with_len 0 (length fs))) c.as_slice-2.ensures.value) in
    let prims_long = (ap length (c.in_ok-staying.ensures.prims is.geo is.has) ∙ length-flags (stays is.geo m Prim) (length s.closed)) in
    let vertices_long = (ap length (c.in_ok-staying.ensures.vertices is.geo is.has) ∙ length-flags (stays is.geo m Vertex) (length s.refers)) in
    let refers_long = ap length (c.in_ok-refers.ensures ∙ ap (λ fs. map (how_many (is_marked fs)) (picked c.refers.result.now 0 c.as_slice-7.result.now)) c.as_slice-8.ensures.value ∙ ap (λ xs. map (how_many (is_marked c.in_ok-staying.staying.points.items)) (picked xs 0 c.as_slice-7.result.now)) c.refers.ensures ∙ ap (λ ps. map (how_many (is_marked c.in_ok-staying.staying.points.items)) (picked s.refers 0 ps)) c.as_slice-7.ensures.value) ∙ length-map (picked s.refers 0 c.in_ok-vertices.vertices.items) (how_many (is_marked c.in_ok-staying.staying.points.items)) ∙ length-map c.in_ok-vertices.vertices.items (λ n. get_or s.refers n 0) in
    is-swept s is m c.in_ok-closed.closed.items c.in_ok-ends.ends.items c.in_ok-refers.refers.items c.in_ok-vertices.vertices.items c.in_ok-prims.prims.items has
    (c.in_ok-closed.ensures false ∙ ap (λ xs. picked xs false c.as_slice-4.result.now) c.closed_flags.ensures ∙ ap (picked s.closed false) c.as_slice-4.ensures.value)
    refers_long (omega arith) (omega arith)

pub returns-clause-shape : goal.returns-clause-shape
returns-clause-shape c g has =
    let s = c.args.self.now in
    let m = c.args.marks.now in
    let is = c.known.ensures in
    has-swept g s has m c.args.points c.in_ok-staying.staying.points.items c.in_ok-staying.staying.vertices.items c.in_ok-staying.staying.prims.items (c.in_ok-staying.ensures.points g has) (c.in_ok-staying.ensures.vertices g has) (c.in_ok-staying.ensures.prims g has)
    c.in_ok-closed.closed.items c.in_ok-ends.ends.items c.in_ok-refers.refers.items c.in_ok-vertices.vertices.items c.in_ok-prims.prims.items c.requires.refers
    (c.in_ok-vertices.ensures ∙ ap (λ fs. kept (is_marked fs) 0 (range_with_len 0 (length fs))) c.as_slice-2.ensures.value)
    (c.in_ok-prims.ensures ∙ ap (λ fs. kept (is_marked fs) 0 (range_with_len 0 (length fs))) c.as_slice-3.ensures.value)
    (c.in_ok-closed.ensures false ∙ ap (λ xs. picked xs false c.as_slice-4.result.now) c.closed_flags.ensures ∙ ap (picked s.closed false) c.as_slice-4.ensures.value)
    (c.in_ok-ends.ensures ∙ ap (λ fs. map (how_many (is_marked fs)) (picked c.ends.result.now 0 c.as_slice-5.result.now)) c.as_slice-6.ensures.value ∙ ap (λ xs. map (how_many (is_marked c.in_ok-staying.staying.vertices.items)) (picked xs 0 c.as_slice-5.result.now)) c.ends.ensures ∙ ap (λ ps. map (how_many (is_marked c.in_ok-staying.staying.vertices.items)) (picked s.ends 0 ps)) c.as_slice-5.ensures.value)
    (c.in_ok-refers.ensures ∙ ap (λ fs. map (how_many (is_marked fs)) (picked c.refers.result.now 0 c.as_slice-7.result.now)) c.as_slice-8.ensures.value ∙ ap (λ xs. map (how_many (is_marked c.in_ok-staying.staying.points.items)) (picked xs 0 c.as_slice-7.result.now)) c.refers.ensures ∙ ap (λ ps. map (how_many (is_marked c.in_ok-staying.staying.points.items)) (picked s.refers 0 ps)) c.as_slice-7.ensures.value)
    ∙ sym c.from_lists.ensures

pub returns-clause-points : goal.returns-clause-points
returns-clause-points c g has many =
    let s = c.args.self.now in
    let m = c.args.marks.now in
    let is = c.known.ensures in
    points_left g s has m c.args.points c.in_ok-staying.staying.points.items c.in_ok-staying.staying.vertices.items c.in_ok-staying.staying.prims.items (c.in_ok-staying.ensures.points g has) (c.in_ok-staying.ensures.vertices g has) (c.in_ok-staying.ensures.prims g has) c.in_ok-points.points.items many (c.in_ok-points.ensures ∙ ap (λ fs. kept (is_marked fs) 0 (range_with_len 0 (length fs))) c.as_slice.ensures.value)

pub returns-clause-vertices : goal.returns-clause-vertices
returns-clause-vertices c g has =
    let s = c.args.self.now in
    let m = c.args.marks.now in
    let is = c.known.ensures in
    vertices_left g s has m c.args.points c.in_ok-staying.staying.points.items c.in_ok-staying.staying.vertices.items c.in_ok-staying.staying.prims.items (c.in_ok-staying.ensures.points g has) (c.in_ok-staying.ensures.vertices g has) (c.in_ok-staying.ensures.prims g has) c.in_ok-vertices.vertices.items (c.in_ok-vertices.ensures ∙ ap (λ fs. kept (is_marked fs) 0 (range_with_len 0 (length fs))) c.as_slice-2.ensures.value)

pub returns-clause-prims : goal.returns-clause-prims
returns-clause-prims c g has =
    let s = c.args.self.now in
    let m = c.args.marks.now in
    let is = c.known.ensures in
    prims_left g s has m c.args.points c.in_ok-staying.staying.points.items c.in_ok-staying.staying.vertices.items c.in_ok-staying.staying.prims.items (c.in_ok-staying.ensures.points g has) (c.in_ok-staying.ensures.vertices g has) (c.in_ok-staying.ensures.prims g has) c.in_ok-prims.prims.items (c.in_ok-prims.ensures ∙ ap (λ fs. kept (is_marked fs) 0 (range_with_len 0 (length fs))) c.as_slice-3.ensures.value)
