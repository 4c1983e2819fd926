use Rattle.std.proofs.Common.{◌≡◌, sum_by, ◌∙◌, length, sym, ap, arith}
use Rattle.std.proofs.lemmas.List.Concat.{length-flat_map}
use Rattle.sop_model.specs.Vertices.{size_of, corners_of, ends_of}
use Rattle.sop_model.proofs.VerticesLemmas.{length-ends_of}
use Rattle.sop_model.proofs.PrimitivesLemmas.{take-written, undone}
use Rattle.sop_model.proofs.primitives.PrimList.add_corners.Goals as goal

pub recount-requires-clause-places : goal.recount-requires-clause-places
recount-requires-clause-places c =
    let inside = c.self.inside in
    omega (arith, c.deref.ensures.len, c.deref_mut-in-Ok.ensures.len, ap length c.self.invariant, length-ends_of 0 inside.prims.items, inside.ends.ok.0, inside.prims.ok.0)

pub recount-requires-clause-few : goal.recount-requires-clause-few
recount-requires-clause-few c =
    let inside = c.self.inside in
    let seen : c.deref.result.now ≡ c.push_corners.new.prims = c.deref.ensures.value ∙ take-written inside.prims.len c.push_corners.new.prims _ (omega (arith, c.push_corners.auto.prims)) in
    let old : sum_by size_of c.deref_mut.result.now ≡ length (corners_of c.args.self.now) = ap (sum_by size_of) (c.deref_mut.ensures.value ∙ c.self.view_is) ∙ sym (length-flat_map (λ p. p.corners) c.args.self.now) in
    omega (arith, ap (sum_by size_of) seen, c.in-Ok.ensures.count, c.vertices.ensures, c.in-Some.ensures, c.len.ensures)

pub shorten-requires : goal.shorten-requires
shorten-requires c =
    let inside = c.self.inside in
    omega (arith, c.deref-in-Err.ensures.len, c.deref_mut-in-Err.ensures.len, ap length c.self.invariant, length-ends_of 0 inside.prims.items, inside.ends.ok.0, inside.prims.ok.0)

pub invariant_of-self-in-Err : goal.invariant_of-self-in-Err
invariant_of-self-in-Err c =
    let inside = c.self.inside in
    let front = c.in-Err.ensures.err in
    let back = undone inside.prims.len inside.ends.items c.deref-in-Err.result.now front.0 inside.prims.items c.deref_mut.result.now c.push_corners.new.prims c.deref_mut-in-Err.result.now c.shorten.new.prims _ _
    c.self.invariant inside.prims.ok.0 (omega (arith, c.push_corners.auto.prims)) c.deref_mut.ensures.value front.1 c.deref_mut-in-Err.ensures.value c.deref-in-Err.ensures.value c.shorten.ensures in
    c.self.invariant ∙ ap (ends_of 0) (sym back)

pub returns-in-Err-clause-err : goal.returns-in-Err-clause-err
returns-in-Err-clause-err c =
    let inside = c.self.inside in
    let front = c.in-Err.ensures.err in
    undone inside.prims.len inside.ends.items c.deref-in-Err.result.now front.0 inside.prims.items c.deref_mut.result.now c.push_corners.new.prims c.deref_mut-in-Err.result.now c.shorten.new.prims _ _
    c.self.invariant inside.prims.ok.0 (omega (arith, c.push_corners.auto.prims)) c.deref_mut.ensures.value front.1 c.deref_mut-in-Err.ensures.value c.deref-in-Err.ensures.value c.shorten.ensures
    ∙ c.self.view_is
