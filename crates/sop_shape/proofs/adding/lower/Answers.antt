use Rattle.std.proofs.Common.{◌∙◌, set, get_or, ap, arith}
use Rattle.std.specs.Prelude.{min}
use Rattle.std.proofs.lemmas.List.{get_or_default}
use Rattle.std.proofs.lemmas.List.Edits.{map_over_more}
use Rattle.sop_shape.proofs.adding.lower.Goals as goal

pub loop-number-preserved : goal.loop-number-preserved
loop-number-preserved c =
    let xs = c.deref_mut-number-items.result.now in
    let ys = c.loop-number.number-items in
    let k = c.loop-number.number-index in
    let x = get_or ys k 0 in
    ap (set ys k) c.lesser.ensures ∙ map_over_more (λ n. min n c.args.most) xs ys k x (omega arith) c.loop-number.invariant (get_or_default ys k 0 x (omega arith))
