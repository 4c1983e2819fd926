use Rattle.std.proofs.Common.{◌≡◌, ◌+◌, ◌≤◌, length}
use Rattle.std.specs.Prelude.{sum_by}
use Rattle.sop_model.specs.Vertices.{size_of, longer_prims}
use Rattle.sop_model.proofs.primitives.push_corners.Given as goal

abbrev pub invariant-loop-prim : goal.invariant-loop-prim
invariant-loop-prim l = record {
  added : l.prims ≡ longer_prims l.yielded l.initial.prims;
  count : sum_by size_of l.prims ≤ sum_by size_of l.initial.prims + length l.yielded;
}
