use Rattle.std.proofs.Common.{◌≡◌, ◌+◌, ◌++◌, ◌∷◌, [], ◌∙◌, sym, ap, arith, take}
use Rattle.std.proofs.lemmas.List.{take_more_set}
use Rattle.sop_model.specs.Vertices.{size_of, ends_of}
use Rattle.sop_model.proofs.PrimitivesLemmas.{ends_of-more, first_vertex_in-more}
use Rattle.sop_model.proofs.primitives.recount.Goals as goal

pub loop-i-preserved : goal.loop-i-preserved
loop-i-preserved c =
    let prims = c.args.prims.now in
    let i = c.loop-i.i in
    let end = c.loop-i.end in
    let p = c.index-prims-i.result in
    let more = ends_of-more prims i end p (omega arith) c.index-prims-i.is c.loop-i.invariant.end in
    let size : end + c.len.result ≡ end + size_of p = ap (λ n. end + n) c.len.ensures in
    record {
      ends = take_more_set c.loop-i.ends i (end + c.len.result) (omega arith) ∙ ap (λ xs. xs ++ (end + c.len.result) ∷ []) c.loop-i.invariant.ends ∙ ap (λ n. ends_of 0 (take i prims) ++ n ∷ []) size ∙ sym more;
      end = size ∙ first_vertex_in-more prims i end p (omega arith) c.index-prims-i.is c.loop-i.invariant.end;
    }
