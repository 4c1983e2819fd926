use Rattle.std.proofs.Common.{length, ap, arith, rules, tests, leb, subst, ◌∙◌}
use Rattle.std.proofs.lemmas.List.Sorted.{IsPartitionPoint-from_clause, IsPartitionedBy-leb}
use Rattle.sop_model.specs.Vertices.{ends_of}
use Rattle.sop_model.proofs.VerticesLemmas.{length-ends_of, ends_of-rise, prim_in-from_point}
use Rattle.sop_model.proofs.LimitsLemmas.{within_prims}
use Rattle.geo_text.specs.ObjColumns.{columns_geo, AreComplete}
use Rattle.geo_text.proofs.ObjColumnReading.{ends_are, prims_long}
use Rattle.geo_text.proofs.columns_view.ObjColumnsGeoView.prim_of.Goals as goal

pub overflow_cast-result : goal.overflow_cast-result
overflow_cast-result c =
    let s = c.args.self.now in
    let filled = subst AreComplete c.self.view_is c.self.invariant in
    omega (arith, c.partition_point.ensures.bound, prims_long s filled, within_prims c.requires.readable.within, ap length c.deref.ensures.value, ap (λ t. length t.ends) c.self.view_is)

pub returns : goal.returns
returns c =
    let s = c.args.self.now in
    let filled = subst AreComplete c.self.view_is c.self.invariant in
    let prims = (columns_geo s).prims in
    let ends = c.deref.ensures.value ∙ ap (λ t. t.ends) c.self.view_is ∙ ends_are s filled in
    let clause = rw ends at c.partition_point.ensures.partitioned in
    let point = IsPartitionPoint-from_clause (λ n. leb n c.args.vertex) (ends_of 0 prims) c.partition_point.result clause (IsPartitionedBy-leb (λ n. n) (ends_of 0 prims) c.args.vertex (ends_of-rise 0 prims)) (λ a r q k. search (rules, tests)) in
    prim_in-from_point prims c.args.vertex _ (omega (arith, c.partition_point.ensures.bound, ap length ends, length-ends_of 0 prims)) point
