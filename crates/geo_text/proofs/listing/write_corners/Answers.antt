use Rattle.std.proofs.Common.{ap, ◌∙◌, drop}
use Rattle.std.specs.Option.{option_map}
use Rattle.sop_model.specs.Vertices.{corners_of}
use Rattle.geo_text.specs.Listing.{blank_number}
use Rattle.geo_text.proofs.Writing.{text_more, slice_get-drop}
use Rattle.geo_text.proofs.listing.write_corners.Goals as goal

pub loop-place-preserved : goal.loop-place-preserved
loop-place-preserved g c =
    let corners = corners_of (g.V.GeoView.geo c.args.view.now).prims in
    text_more (λ corner. corner.point) blank_number (drop c.args.first corners) c.loop-place.place c.point_of.result c.args.text.now.items c.loop-place.text.items c.write_number.new.text.items
    (ap (option_map (λ corner. corner.point)) (slice_get-drop corners c.args.first c.loop-place.place) ∙ c.point_of.ensures) c.in_ok-write_number.ensures c.loop-place.invariant
