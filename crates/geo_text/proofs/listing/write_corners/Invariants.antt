use Rattle.std.proofs.Common.{◌≡◌, ◌++◌, take, drop}
use Rattle.std.specs.List.{flat_map}
use Rattle.sop_model.specs.Vertices.{corners_of}
use Rattle.geo_text.specs.Listing.{corner_text}
use Rattle.geo_text.proofs.listing.write_corners.Given as goal

abbrev pub invariant-loop-place : goal.invariant-loop-place
invariant-loop-place g l = l.text.items ≡ l.initial.text.items ++ flat_map corner_text (take l.place (drop l.first (corners_of (g.V.GeoView.geo l.view).prims)))
