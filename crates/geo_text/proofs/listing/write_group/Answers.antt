use Rattle.sop_model.specs.Geometry.{heads_of}
use Rattle.geo_text.specs.Listing.{each_numbered, member_text, flags_of}
use Rattle.geo_text.proofs.Listed.{listed_group}
use Rattle.geo_text.proofs.listing.write_group.Goals as goal

pub returns : goal.returns
returns g c =
    let geo = g.V.GeoView.geo c.args.view.now in
    listed_group (heads_of geo c.args.class).groups c.args.class c.args.group c.group_name.result.now (each_numbered member_text (flags_of geo c.args.class c.args.group)) c.args.text.now.items c.write_group_name.new.text.items c.write_members.new.text.items c.extend_from_slice.new.self.items
    c.group_name.ensures c.in_ok-write_group_name.ensures c.in_ok-write_members.ensures c.in_ok-extend_from_slice.ensures.items
