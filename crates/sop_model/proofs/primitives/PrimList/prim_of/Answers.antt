use Rattle.std.proofs.Common.{arith, length, ap, rules, tests, leb, ◌∙◌}
use Rattle.std.proofs.lemmas.List.Sorted.{IsPartitionPoint-from_clause, IsPartitionedBy-leb}
use Rattle.sop_model.proofs.VerticesLemmas.{length-ends_of, ends_of-rise, prim_in-from_point}
use Rattle.sop_model.specs.Vertices.{ends_of}
use Rattle.sop_model.proofs.primitives.PrimList.prim_of.Goals as goal

pub returns : goal.returns
returns c =
    let prims = c.self.inside.prims.items in
    let ends = c.deref.ensures.value ∙ c.self.invariant in
    let clause = rw ends at c.partition_point.ensures.partitioned in
    let point = IsPartitionPoint-from_clause (λ n. leb n c.args.vertex) (ends_of 0 prims) c.partition_point.result clause (IsPartitionedBy-leb (λ n. n) (ends_of 0 prims) c.args.vertex (ends_of-rise 0 prims)) (λ a r q k. search (rules, tests)) in
    rw (← c.self.view_is) (prim_in-from_point prims c.args.vertex _ (omega (arith, c.partition_point.ensures.bound, ap length ends, length-ends_of 0 prims)) point)
