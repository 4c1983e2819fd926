use Rattle.std.proofs.Common.{arith}
use Rattle.sop_model.proofs.VerticesLemmas.{ends_pushed}
use Rattle.sop_model.proofs.primitives.PrimList.push.Goals as goal

pub invariant_of-self-2 : goal.invariant_of-self-2
invariant_of-self-2 c =
    let inside = c.self.inside in
    rw (c.in-Ok-push.ensures.items, c.in-Ok.ensures.items, c.reserve.ensures.items) (ends_pushed inside.ends.items inside.prims.items c.args.prim c.unwrap_or-first.result c.in-Some.end c.self.invariant (cc (c.deref.ensures.value, c.last.ensures.value)) (omega (arith, c.in-Some.ensures, c.len.ensures)))
