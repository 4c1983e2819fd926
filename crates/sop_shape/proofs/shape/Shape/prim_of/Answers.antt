use Rattle.std.proofs.Common.{◌∙◌, arith, length, ap, rules, tests, leb}
use Rattle.std.proofs.lemmas.List.Sorted.{IsPartitionPoint-from_clause, IsPartitionedBy-leb}
use Rattle.sop_model.specs.Vertices.{ends_of}
use Rattle.sop_model.proofs.VerticesLemmas.{length-ends_of, ends_of-rise, prim_in-from_point}
use Rattle.sop_shape.proofs.ReadLemmas.{ends_as_many, ends_is}
use Rattle.sop_shape.proofs.shape.Shape.prim_of.Goals as goal

pub overflow_cast-result : goal.overflow_cast-result
overflow_cast-result c = let is = c.self.invariant in omega (arith, ends_as_many _ is, is.prims, c.partition_point.ensures.bound, ap length c.deref.ensures.value)

pub returns : goal.returns
returns c g has =
    let prims = g.prims in
    let ends = c.deref.ensures.value ∙ ap (λ s. s.ends) c.self.view_is ∙ ends_is g c.args.self.now has in
    let clause = rw ends at c.partition_point.ensures.partitioned in
    let point = IsPartitionPoint-from_clause (λ n. leb n c.args.vertex) (ends_of 0 prims) c.partition_point.result clause (IsPartitionedBy-leb (λ n. n) (ends_of 0 prims) c.args.vertex (ends_of-rise 0 prims)) (λ a r q k. search (rules, tests)) in
    prim_in-from_point prims c.args.vertex _ (omega (arith, c.partition_point.ensures.bound, ap length ends, length-ends_of 0 prims)) point
