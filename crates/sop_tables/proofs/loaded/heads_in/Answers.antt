use Rattle.std.proofs.Common.{◌∙◌, ap, sym, arith}
use Rattle.std.specs.Prelude.{Some}
use Rattle.sop_model.specs.Geometry.{heads_of}
use Rattle.sop_tables.proofs.LoadedLemmas.{head_more}
use Rattle.sop_tables.proofs.loaded.heads_in.Goals as goal

pub loop-head-preserved : goal.loop-head-preserved
loop-head-preserved g c =
    head_more (heads_of (g.V.GeoView.geo c.args.view.now) c.args.class).heads c.loop-head.head c.in_ok-name.name c.head_kind-kind.result c.loop-head.heads _ (let a = c.heads-count.ensures in let t = c.loop-head-test.true in omega arith)
    (c.head_name.ensures ∙ ap Some (sym c.in_ok-name.ensures)) c.head_kind-kind.ensures c.loop-head.invariant c.in_ok-add.ensures.ok
