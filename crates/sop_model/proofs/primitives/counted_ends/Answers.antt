use Rattle.std.proofs.Common.{◌≡◌, ◌+◌, ◌++◌, ◌∷◌, [], ◌∙◌, sym, ap, take, arith}
use Rattle.sop_model.specs.Vertices.{size_of, ends_of}
use Rattle.sop_model.proofs.PrimitivesLemmas.{ends_of-more, first_vertex_in-more}
use Rattle.sop_model.proofs.primitives.counted_ends.Goals as goal

pub loop-prim-preserved : goal.loop-prim-preserved
loop-prim-preserved c =
    let prims = c.args.prims.now in
    let i = c.loop-prim.prim-index in
    let end = c.loop-prim.end in
    let p = c.prim-item.result in
    let next : c.in-Some.next ≡ end + size_of p = omega (arith, c.in-Some.ensures, c.len.ensures) in
    record {
      ends = c.in_ok-push.ensures.items ∙ ap (λ xs. xs ++ c.in-Some.next ∷ []) c.loop-prim.invariant.ends ∙ ap (λ n. ends_of 0 (take i prims) ++ n ∷ []) next ∙ sym (ends_of-more prims i end p (omega arith) c.prim-item.is c.loop-prim.invariant.end);
      end = next ∙ first_vertex_in-more prims i end p (omega arith) c.prim-item.is c.loop-prim.invariant.end;
    }
