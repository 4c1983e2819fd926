use Rattle.std.proofs.Common.{false, get_or, refl}
use Rattle.sop_shape.proofs.StayLemmas.{touching_more}
use Rattle.sop_shape.proofs.staying.touched.Goals as goal

pub loop-vertex-preserved : goal.loop-vertex-preserved
loop-vertex-preserved c =
    let k = c.loop-vertex.vertex in
    touching_more c.args.flags.now c.args.refers.now c.args.points k (get_or c.args.refers.now k 0) (get_or c.args.flags.now k false) c.loop-vertex.made.items c.raise.new.flags.items refl refl c.raise.ensures.long c.raise.ensures.each c.loop-vertex.invariant
