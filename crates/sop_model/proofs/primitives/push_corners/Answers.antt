use Rattle.std.proofs.Common.{◌∷◌, [], ◌∙◌, length-append, sym, ap, arith}
use Rattle.std.specs.Prelude.{sum_by}
use Rattle.sop_model.specs.Rows.{changed_at}
use Rattle.sop_model.specs.Vertices.{size_of, with_more}
use Rattle.sop_model.proofs.PrimitivesLemmas.{longer_prims-nil, longer_prims-push, sum_by-with_more}
use Rattle.sop_model.proofs.primitives.push_corners.Goals as goal

pub loop-prim-init : goal.loop-prim-init
loop-prim-init c = record { added = sym (longer_prims-nil c.args.prims.now); count = omega arith }

pub loop-prim-preserved : goal.loop-prim-preserved
loop-prim-preserved c =
    let corner = c.in-Some.corner in
    let put = c.in_ok-push_corner.ensures.ok in
    let more = sum_by-with_more corner c.loop-prim.prims c.in-Some.prim in
    record {
      added = put ∙ ap (λ prims. changed_at (with_more (corner ∷ [])) prims c.in-Some.prim) c.loop-prim.invariant.added ∙ sym (longer_prims-push c.in-Some.prim corner c.loop-prim.yielded c.args.prims.now);
      count = omega (arith, ap (sum_by size_of) put, length-append c.loop-prim.yielded ((c.in-Some.prim, corner) ∷ []));
    }
