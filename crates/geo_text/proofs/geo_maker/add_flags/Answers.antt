use Rattle.std.proofs.Common.{ap, arith, get_or, List, Bool}
use Rattle.geo_text.specs.ObjTaking.{flag_more}
use Rattle.geo_text.proofs.ObjMaking.{each_more}
use Rattle.geo_text.proofs.geo_maker.add_flags.Goals as goal

pub loop-prim-preserved : goal.loop-prim-preserved
loop-prim-preserved c =
    let p = c.prim-item.result in
    let i = c.loop-prim.prim-index in
    let q = get_or c.loop-prim.prims i p in
    each_more flag_more c.args.prims.now c.loop-prim.prims i p _ (omega arith) c.loop-prim.invariant.0 c.loop-prim.invariant.1
    (ap (λ (f : List Bool). record q { row = record q.row { flags = f } }) c.in_ok-add.ensures.ok)
