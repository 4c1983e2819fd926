use Rattle.std.proofs.Common.{◌≤◌, ◌++◌, List, ℕ, length, get_or, arith}
use Rattle.std.specs.Prelude.{codes}
use Rattle.std.specs.List.{flat_map, items_where_true}
use Rattle.sop_model.specs.Rows.{no_prim}
use Rattle.geo_text.proofs.ObjWriter.{names_end, groups_written, flags_long}
use Rattle.geo_text.proofs.obj_writer.write_groups.Goals as goal

pub returns : goal.returns
returns g c =
    let geo = g.V.GeoView.geo c.args.view.now in
    let flags = (get_or geo.prims c.args.prim no_prim).row.flags in
    let middle = flat_map (λ (name : List ℕ). codes " " ++ name) (items_where_true flags geo.prim.groups) in
    let end : length flags ≤ c.loop-group.group = omega (arith, flags_long geo c.args.prim c.requires.readable c.requires.prim, c.groups-group-end.ensures) in
    groups_written c.args.text.now.items c.extend_from_slice.new.self.items c.loop-group.text.items c.extend_from_slice-2.new.self.items (codes "g") middle (codes "\n")
    c.in_ok-extend_from_slice.ensures.items
    (names_end flags geo.prim.groups c.loop-group.group c.loop-group.text.items (c.extend_from_slice.new.self.items ++ middle) end c.loop-group.invariant)
    c.in_ok-extend_from_slice-2.ensures.items
