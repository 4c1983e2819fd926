use Rattle.sop_model.specs.Geometry.{heads_of}
use Rattle.geo_text.specs.Listing.{group_line}
use Rattle.geo_text.proofs.Listed.{told_more}
use Rattle.geo_text.proofs.listing.write_groups.Goals as goal

pub loop-group-preserved : goal.loop-group-preserved
loop-group-preserved g c =
    let geo = g.V.GeoView.geo c.args.view.now in
    told_more (group_line geo c.args.class) (heads_of geo c.args.class).groups c.loop-group.group c.args.text.now.items c.loop-group.text.items c.write_group.new.text.items c.in_ok-write_group.ensures c.loop-group.invariant
