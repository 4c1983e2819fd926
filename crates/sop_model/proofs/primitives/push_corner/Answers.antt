use Rattle.std.proofs.Common.{get_or}
use Rattle.std.proofs.lemmas.Option.{slice_get-get_or}
use Rattle.sop_model.proofs.PrimitivesLemmas.{set-with_more}
use Rattle.sop_model.proofs.primitives.push_corner.Goals as goal

pub returns-clause-ok : goal.returns-clause-ok
returns-clause-ok c =
    let prims = c.args.prims.now in
    let p = get_or prims c.args.i c.index-prims-i.result in
    set-with_more prims c.args.i p c.args.corner c.add.new.self (slice_get-get_or prims c.args.i c.index-prims-i.result c.requires) c.in_ok-add.ensures.ok
