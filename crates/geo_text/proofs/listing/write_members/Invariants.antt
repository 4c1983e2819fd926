use Rattle.std.proofs.Common.{◌≡◌, ◌++◌, take}
use Rattle.geo_text.specs.Listing.{each_numbered, member_text, flags_of}
use Rattle.geo_text.proofs.listing.write_members.Given as goal

abbrev pub invariant-loop-element : goal.invariant-loop-element
invariant-loop-element g l = l.text.items ≡ l.initial.text.items ++ each_numbered member_text (take l.element (flags_of (g.V.GeoView.geo l.view) l.class l.group))
