use Rattle.std.proofs.Common.{◌≡◌, take}
use Rattle.sop_model.specs.Vertices.{ends_of}
use Rattle.sop_shape.proofs.making.ends_in.Given as goal

abbrev pub invariant-loop-prim : goal.invariant-loop-prim
invariant-loop-prim g l = l.ends.items ≡ ends_of 0 (take l.prim (g.V.GeoView.geo l.view).prims)
