use Rattle.std.proofs.Common.{◌≡◌, take}
use Rattle.sop_model.specs.Vertices.{ends_of, first_vertex_in}
use Rattle.sop_model.proofs.primitives.counted_ends.Given as goal

abbrev pub invariant-loop-prim : goal.invariant-loop-prim
invariant-loop-prim l = record {
  ends : l.ends.items ≡ ends_of 0 (take l.prim-index l.prims);
  end : l.end ≡ first_vertex_in l.prims l.prim-index;
}
