use Rattle.geo_text.proofs.Writing.{prim_inside}
use Rattle.geo_text.proofs.Listed.{listed_prim}
use Rattle.geo_text.proofs.listing.write_prim.Goals as goal

pub write_corners-requires-clause-in_range : goal.write_corners-requires-clause-in_range
write_corners-requires-clause-in_range g c = prim_inside (g.V.GeoView.geo c.args.view.now).prims c.args.prim c.first_vertex-first.result c.size-size.result c.size-size.ensures c.first_vertex-first.ensures

pub returns : goal.returns
returns g c = listed_prim (g.V.GeoView.geo c.args.view.now).prims c.args.prim c.first_vertex-first.result c.size-size.result c.closed.result c.args.text.now.items c.write_opening.new.text.items c.write_corners.new.text.items c.extend_from_slice.new.self.items
    c.size-size.ensures c.closed.ensures c.first_vertex-first.ensures c.in_ok-write_opening.ensures c.in_ok-write_corners.ensures c.in_ok-extend_from_slice.ensures.items
