use Rattle.std.proofs.Common.{◌≡◌, drop, get_or}
use Rattle.sop_model.specs.Rows.{no_prim}
use Rattle.geo_text.specs.ObjText.{same_flags}
use Rattle.geo_text.specs.ObjFlags.{flags_before}
use Rattle.geo_text.proofs.obj_writer.is_in_same.Given as goal

abbrev pub invariant-loop-group : goal.invariant-loop-group
invariant-loop-group g l =
    let geo = g.V.GeoView.geo l.view in
    let flags = (get_or geo.prims l.prim no_prim).row.flags in
    same_flags (drop l.group (flags_before geo l.prim)) (drop l.group flags) ≡ same_flags (flags_before geo l.prim) flags
