use Rattle.std.specs.List.{flat_map}
use Rattle.sop_model.specs.Geometry.{heads_of}
use Rattle.sop_model.specs.Rows.{column_of}
use Rattle.geo_text.specs.Listing.{value_line}
use Rattle.geo_text.proofs.Listed.{listed_attr}
use Rattle.geo_text.proofs.listing.write_attr.Goals as goal

pub returns : goal.returns
returns g c =
    let geo = g.V.GeoView.geo c.args.view.now in
    listed_attr (heads_of geo c.args.class).heads c.args.class c.args.head c.head_name-name.result.now c.head_kind.result (flat_map value_line (column_of geo c.args.class c.args.head)) c.args.text.now.items c.write_attr_line.new.text.items c.write_column.new.text.items
    c.head_name-name.ensures c.head_kind.ensures c.in_ok-write_attr_line.ensures c.in_ok-write_column.ensures
