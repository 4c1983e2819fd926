use Rattle.std.specs.Prelude.{pos}
use Rattle.sop_model.specs.declared.value.Value.TheVariants as value
use Rattle.sop_model.specs.Geometry.{rows_of}
use Rattle.sop_model.specs.Rows.{column_of}
use Rattle.sop_model.specs.Values.{value_seen}
use Rattle.geo_text.specs.Listing.{value_line}
use Rattle.geo_text.proofs.Writing.{list_more}
use Rattle.geo_text.proofs.Listed.{row_read}
use Rattle.geo_text.proofs.listing.write_column.Goals as goal

pub loop-element-preserved : goal.loop-element-preserved
loop-element-preserved g c =
    let geo = g.V.GeoView.geo c.args.view.now in
    let v = value_seen c.value.result in
    list_more value_line (column_of geo c.args.class c.args.head) c.loop-element.element v c.args.text.now.items c.loop-element.text.items c.write_value_line.new.text.items
    (row_read (λ row. row.values) (value.Int (pos 0)) (rows_of geo c.args.class) c.args.head c.loop-element.element v c.value.ensures) c.in_ok-write_value_line.ensures c.loop-element.invariant
