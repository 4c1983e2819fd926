use Rattle.std.proofs.Common.{◌≡◌, take}
use Rattle.sop_model.specs.declared.geo.Geo.{Geo}
use Rattle.sop_shape.specs.Shapes.{HasShape}
use Rattle.sop_shape.specs.Groups.{owners_from}
use Rattle.sop_shape.proofs.shape.Shape.owners.Given as goal

abbrev pub invariant-loop-prim : goal.invariant-loop-prim
invariant-loop-prim l = (g : Geo) → HasShape g l.self → l.owners.items ≡ owners_from 0 (take l.prim g.prims)
