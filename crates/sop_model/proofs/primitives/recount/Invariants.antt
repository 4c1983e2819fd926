use Rattle.std.proofs.Common.{◌≡◌, take}
use Rattle.sop_model.specs.Vertices.{ends_of, first_vertex_in}
use Rattle.sop_model.proofs.primitives.recount.Given as goal

abbrev pub invariant-loop-i : goal.invariant-loop-i
invariant-loop-i l = record {
  ends : take l.i l.ends ≡ ends_of 0 (take l.i l.prims);
  end : l.end ≡ first_vertex_in l.prims l.i;
}
