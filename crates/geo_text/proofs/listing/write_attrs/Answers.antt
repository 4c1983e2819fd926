use Rattle.sop_model.specs.Geometry.{heads_of}
use Rattle.geo_text.specs.Listing.{attr_text}
use Rattle.geo_text.proofs.Listed.{told_more}
use Rattle.geo_text.proofs.listing.write_attrs.Goals as goal

pub loop-head-preserved : goal.loop-head-preserved
loop-head-preserved g c =
    let geo = g.V.GeoView.geo c.args.view.now in
    told_more (attr_text geo c.args.class) (heads_of geo c.args.class).heads c.loop-head.head c.args.text.now.items c.loop-head.text.items c.write_attr.new.text.items c.in_ok-write_attr.ensures c.loop-head.invariant
