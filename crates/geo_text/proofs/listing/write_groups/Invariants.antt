use Rattle.std.proofs.Common.{◌≡◌, ◌++◌, take}
use Rattle.sop_model.specs.Geometry.{heads_of}
use Rattle.geo_text.specs.Listing.{each_numbered, group_line}
use Rattle.geo_text.proofs.listing.write_groups.Given as goal

abbrev pub invariant-loop-group : goal.invariant-loop-group
invariant-loop-group g l = l.text.items ≡ l.initial.text.items ++ each_numbered (group_line (g.V.GeoView.geo l.view) l.class) (take l.group (heads_of (g.V.GeoView.geo l.view) l.class).groups)
