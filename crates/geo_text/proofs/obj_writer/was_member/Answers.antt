use Rattle.geo_text.proofs.ObjWriter.{was_none}
use Rattle.geo_text.proofs.obj_writer.was_member.Goals as goal

pub returns-then-prim-eq0 : goal.returns-then-prim-eq0
returns-then-prim-eq0 g c = was_none (g.V.GeoView.geo c.args.view.now) c.args.prim c.args.group c.if-prim-eq0.true
