use Rattle.std.proofs.Common.{◌≡◌, ◌+◌, ◌<◌, ◌∷◌, suc, length, refl, ap, get_or, arith}
use Rattle.std.proofs.lemmas.Option.{slice_get-get_or}
use Rattle.sop_model.proofs.PrimitivesLemmas.{shortened-more}
use Rattle.sop_model.proofs.primitives.shorten.Goals as goal

pub loop-i-preserved : goal.loop-i-preserved
loop-i-preserved c =
    let prims = c.loop-i.prims in
    let i = c.loop-i.i in
    let ends = c.args.ends.now in
    let lt : i < length prims = omega arith in
    let p = get_or prims i c.index-prims-i.result in
    let next : suc i ≡ i + 1 = omega arith in
    record {
      cut = shortened-more ends c.args.prims.now prims i c.loop-i.first (get_or ends i 0) c.saturating_sub-size.result p c.shorten_corners.new.corners (omega arith) (slice_get-get_or prims i c.index-prims-i.result lt) c.loop-i.invariant.cut c.loop-i.invariant.first refl c.saturating_sub-size.ensures c.shorten_corners.ensures;
      first = ap (λ n. get_or (0 ∷ ends) n 0) next;
    }
