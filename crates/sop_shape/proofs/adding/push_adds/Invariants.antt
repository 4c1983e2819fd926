use Rattle.std.proofs.Common.{◌≡◌, ◌++◌, map, take}
use Rattle.sop_shape.proofs.adding.push_adds.Given as goal

abbrev pub invariant-loop-prim : goal.invariant-loop-prim
invariant-loop-prim l = record {
  prims : l.prims.items ≡ l.initial.prims.items ++ map (λ a. a.0) (take l.prim-index l.adds);
  points : l.points.items ≡ l.initial.points.items ++ map (λ a. a.1) (take l.prim-index l.adds);
}
