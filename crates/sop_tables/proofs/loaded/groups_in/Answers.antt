use Rattle.std.proofs.Common.{◌∙◌, ap, sym, arith}
use Rattle.std.specs.Prelude.{Some}
use Rattle.sop_model.specs.Geometry.{heads_of}
use Rattle.sop_tables.proofs.LoadedLemmas.{read_more}
use Rattle.sop_tables.proofs.loaded.groups_in.Goals as goal

pub loop-group-preserved : goal.loop-group-preserved
loop-group-preserved g c =
    read_more (heads_of (g.V.GeoView.geo c.args.view.now) c.args.class).groups c.loop-group.group c.in_ok-from_str.field-0 c.loop-group.groups _ (let a = c.groups-count.ensures in let t = c.loop-group-test.true in omega arith)
    (c.group_name.ensures ∙ ap Some (sym c.in_ok-from_str.ensures)) c.loop-group.invariant c.in_ok-add.ensures.ok
