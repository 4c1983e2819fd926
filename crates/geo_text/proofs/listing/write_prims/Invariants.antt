use Rattle.std.proofs.Common.{◌≡◌, ◌++◌, take}
use Rattle.geo_text.specs.Listing.{each_numbered, prim_line}
use Rattle.geo_text.proofs.listing.write_prims.Given as goal

abbrev pub invariant-loop-prim : goal.invariant-loop-prim
invariant-loop-prim g l = l.text.items ≡ l.initial.text.items ++ each_numbered prim_line (take l.prim (g.V.GeoView.geo l.view).prims)
