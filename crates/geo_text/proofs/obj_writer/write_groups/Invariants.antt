use Rattle.std.proofs.Common.{◌≡◌, ◌++◌, List, ℕ, drop, get_or}
use Rattle.std.specs.Prelude.{codes}
use Rattle.std.specs.List.{flat_map, items_where_true}
use Rattle.sop_model.specs.Rows.{no_prim}
use Rattle.geo_text.proofs.obj_writer.write_groups.Given as goal

abbrev pub invariant-loop-group : goal.invariant-loop-group
invariant-loop-group g l =
    let geo = g.V.GeoView.geo l.view in
    let flags = (get_or geo.prims l.prim no_prim).row.flags in
    l.text.items ++ flat_map (λ (name : List ℕ). codes " " ++ name) (items_where_true (drop l.group flags) (drop l.group geo.prim.groups))
    ≡ l.initial.text.items ++ flat_map (λ (name : List ℕ). codes " " ++ name) (items_where_true flags geo.prim.groups)
