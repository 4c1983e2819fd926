use Rattle.std.proofs.Common.{◌<◌, ◌≤◌, length, get_or, sym, ◌∙◌, arith}
use Rattle.sop_model.specs.Rows.{no_prim}
use Rattle.geo_text.specs.ObjFlags.{flags_before}
use Rattle.geo_text.proofs.ObjWriter.{same_more, same_end, same_from, flags_long, before_long}
use Rattle.geo_text.proofs.obj_writer.is_in_same.Goals as goal

pub loop-group-preserved : goal.loop-group-preserved
loop-group-preserved g c =
    let geo = g.V.GeoView.geo c.args.view.now in
    let before = flags_before geo c.args.prim in
    let flags = (get_or geo.prims c.args.prim no_prim).row.flags in
    let group = c.loop-group.group in
    let some : group < length geo.prim.groups = omega (arith, c.groups-group-end.ensures) in
    let a : group < length before = omega (arith, before_long geo c.args.prim c.requires.readable c.requires.prim) in
    let b : group < length flags = omega (arith, flags_long geo c.args.prim c.requires.readable c.requires.prim) in
    same_more before flags group a b (sym c.was_member.ensures ∙ same_from c.was_member.result c.is_member.result c.if-was_member-is_member.false ∙ c.is_member.ensures) ∙ c.loop-group.invariant

pub returns : goal.returns
returns g c =
    let geo = g.V.GeoView.geo c.args.view.now in
    let before = flags_before geo c.args.prim in
    let flags = (get_or geo.prims c.args.prim no_prim).row.flags in
    let group = c.loop-group.group in
    let end : length geo.prim.groups ≤ group = omega (arith, c.groups-group-end.ensures) in
    let a : length before ≤ group = omega (arith, before_long geo c.args.prim c.requires.readable c.requires.prim) in
    let b : length flags ≤ group = omega (arith, flags_long geo c.args.prim c.requires.readable c.requires.prim) in
    sym (same_end before flags group a b) ∙ c.loop-group.invariant
