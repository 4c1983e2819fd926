use Rattle.geo_text.proofs.ObjColumnReading.{no_other_heads}
use Rattle.geo_text.proofs.columns_view.ObjColumnsGeoView.value.Goals as goal

pub unreachable-requires : goal.unreachable-requires
unreachable-requires c = no_other_heads c.args.self.now c.args.class c.args.head c.is_framed.ensures c.in-Detail.is c.requires.head
