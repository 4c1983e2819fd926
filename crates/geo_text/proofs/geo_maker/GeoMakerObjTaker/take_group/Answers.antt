use Rattle.std.proofs.Common.{sym, ap, length, ◌∙◌}
use Rattle.geo_text.proofs.ObjMaking.{group_written}
use Rattle.geo_text.proofs.geo_maker.GeoMakerObjTaker.take_group.Goals as goal

pub returns-clause-taken : goal.returns-clause-taken
returns-clause-taken c =
    let m = c.args.self.now in
    group_written c.add_flags.result m.attributes m.points m.groups c.add.new.self c.args.name m.prims.items c.deref_mut.result.now c.add_flags.new.prims m.prims.len
    c.in_ok-add.ensures.ok c.deref_mut.ensures.value (sym c.deref_mut.ensures.len ∙ ap length c.deref_mut.ensures.value) c.add_flags.ensures
