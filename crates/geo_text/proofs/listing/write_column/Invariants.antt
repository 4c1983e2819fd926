use Rattle.std.proofs.Common.{◌≡◌, ◌++◌, take}
use Rattle.std.specs.List.{flat_map}
use Rattle.sop_model.specs.Rows.{column_of}
use Rattle.geo_text.specs.Listing.{value_line}
use Rattle.geo_text.proofs.listing.write_column.Given as goal

abbrev pub invariant-loop-element : goal.invariant-loop-element
invariant-loop-element g l = l.text.items ≡ l.initial.text.items ++ flat_map value_line (take l.element (column_of (g.V.GeoView.geo l.view) l.class l.head))
