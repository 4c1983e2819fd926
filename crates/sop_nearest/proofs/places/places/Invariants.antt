use Rattle.std.proofs.Common.{◌≡◌, take}
use Rattle.sop_model.specs.Places.{places_of}
use Rattle.sop_nearest.proofs.places.places.Given as goal

abbrev pub invariant-loop-point : goal.invariant-loop-point
invariant-loop-point g l = l.places.items ≡ take l.point (places_of (g.V.GeoView.geo l.view))
