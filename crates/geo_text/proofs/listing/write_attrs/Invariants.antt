use Rattle.std.proofs.Common.{◌≡◌, ◌++◌, take}
use Rattle.sop_model.specs.Geometry.{heads_of}
use Rattle.geo_text.specs.Listing.{each_numbered, attr_text}
use Rattle.geo_text.proofs.listing.write_attrs.Given as goal

abbrev pub invariant-loop-head : goal.invariant-loop-head
invariant-loop-head g l = l.text.items ≡ l.initial.text.items ++ each_numbered (attr_text (g.V.GeoView.geo l.view) l.class) (take l.head (heads_of (g.V.GeoView.geo l.view) l.class).heads)
