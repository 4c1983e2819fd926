use Rattle.std.proofs.Common.{refl, arith, get_or, ◌+◌}
use Rattle.sop_shape.proofs.ReadLemmas.{prims_counted, first_below}
use Rattle.sop_shape.proofs.OrderLemmas.{perm_below, few_vertices, vertices_more, moved_end}
use Rattle.sop_shape.proofs.ordering.moved_vertices.Goals as goal

pub first_vertex-requires : goal.first_vertex-requires
first_vertex-requires c = perm_below c.args.shape.now c.args.perm.now c.requires c.loop-prim.prim-index 0 c.loop-prim-test.true

pub end-requires : goal.end-requires
end-requires c = perm_below c.args.shape.now c.args.perm.now c.requires c.loop-prim.prim-index 0 c.loop-prim-test.true

pub push_range-requires : goal.push_range-requires
push_range-requires c =
    let s = c.args.shape.now in
    let perm = c.args.perm.now in
    let k = c.loop-prim.prim-index in
    let i = get_or perm k 0 in
    let below = perm_below s perm c.requires k 0 c.loop-prim-test.true in
    let is = c.known.ensures in
    first_below is.geo s is.has i c.first_vertex.result c.end.result below (c.first_vertex.ensures is.geo is.has) (c.end.ensures is.geo is.has)

pub overflow_cast-len : goal.overflow_cast-len
overflow_cast-len c =
    let s = c.args.shape.now in
    let perm = c.args.perm.now in
    let k = c.loop-prim.prim-index in
    let i = get_or perm k 0 in
    let below = perm_below s perm c.requires k 0 c.loop-prim-test.true in
    let is = c.known.ensures in
    let made = vertices_more is.geo.prims k i c.first_vertex.result c.end.result perm c.loop-prim.vertices.items c.push_range.new.numbers.items c.loop-prim-test.true refl (omega (arith, prims_counted is.geo s is.has)) (c.first_vertex.ensures is.geo is.has) (c.end.ensures is.geo is.has) (c.loop-prim.invariant.vertices is.geo is.has) c.in_ok-push_range.ensures in
    let few = few_vertices s perm c.requires is (k + 1) c.push_range.new.numbers.items made in
    omega (arith, is.vertices, c.len.ensures, c.push_range.new.numbers.ok.0)

pub loop-prim-preserved : goal.loop-prim-preserved
loop-prim-preserved c =
    let s = c.args.shape.now in
    let perm = c.args.perm.now in
    let k = c.loop-prim.prim-index in
    let i = get_or perm k 0 in
    let below = perm_below s perm c.requires k 0 c.loop-prim-test.true in
    record {
      ends = λ g has. moved_end g.prims k perm c.loop-prim.ends.items c.push.new.self.items c.push_range.new.numbers.items c.len.result c.loop-prim-test.true (c.loop-prim.invariant.ends g has)
          (vertices_more g.prims k i c.first_vertex.result c.end.result perm c.loop-prim.vertices.items c.push_range.new.numbers.items c.loop-prim-test.true refl (omega (arith, prims_counted g s has)) (c.first_vertex.ensures g has) (c.end.ensures g has) (c.loop-prim.invariant.vertices g has) c.in_ok-push_range.ensures)
          (omega (arith, c.len.ensures, c.push_range.new.numbers.ok.0)) c.in_ok-push.ensures.items;
      vertices = λ g has. vertices_more g.prims k i c.first_vertex.result c.end.result perm c.loop-prim.vertices.items c.push_range.new.numbers.items c.loop-prim-test.true refl (omega (arith, prims_counted g s has)) (c.first_vertex.ensures g has) (c.end.ensures g has) (c.loop-prim.invariant.vertices g has) c.in_ok-push_range.ensures;
    }
