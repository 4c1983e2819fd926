use Rattle.std.proofs.Common.{◌≡◌, map, take}
use Rattle.sop_shape.proofs.making.closed_in.Given as goal

abbrev pub invariant-loop-prim : goal.invariant-loop-prim
invariant-loop-prim g l = l.closed.items ≡ map (λ p. p.closed) (take l.prim (g.V.GeoView.geo l.view).prims)
