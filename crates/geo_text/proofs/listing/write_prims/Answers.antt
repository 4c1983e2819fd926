use Rattle.geo_text.specs.Listing.{prim_line}
use Rattle.geo_text.proofs.Listed.{told_more}
use Rattle.geo_text.proofs.listing.write_prims.Goals as goal

pub loop-prim-preserved : goal.loop-prim-preserved
loop-prim-preserved g c = told_more prim_line (g.V.GeoView.geo c.args.view.now).prims c.loop-prim.prim c.args.text.now.items c.loop-prim.text.items c.write_prim.new.text.items c.in_ok-write_prim.ensures c.loop-prim.invariant
