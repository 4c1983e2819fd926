use Rattle.std.specs.Prelude.{false}
use Rattle.sop_model.specs.Geometry.{rows_of}
use Rattle.geo_text.specs.Listing.{member_text, flags_of}
use Rattle.geo_text.proofs.Listed.{item_more, row_read}
use Rattle.geo_text.proofs.listing.write_members.Goals as goal

pub loop-element-preserved : goal.loop-element-preserved
loop-element-preserved g c =
    let geo = g.V.GeoView.geo c.args.view.now in
    item_more member_text (flags_of geo c.args.class c.args.group) c.loop-element.element c.member.result c.args.text.now.items c.loop-element.text.items c.write_member.new.text.items
    (row_read (λ row. row.flags) false (rows_of geo c.args.class) c.args.group c.loop-element.element c.member.result c.member.ensures) c.in_ok-write_member.ensures c.loop-element.invariant
