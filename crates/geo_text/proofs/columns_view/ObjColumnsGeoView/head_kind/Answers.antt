use Rattle.std.proofs.Common.{subst, sym}
use Rattle.sop_model.specs.Geometry.{IsReadable}
use Rattle.geo_text.specs.ObjColumns.{columns_geo}
use Rattle.geo_text.proofs.ObjColumnReading.{readable_frame}
use Rattle.geo_text.proofs.columns_view.ObjColumnsGeoView.head_kind.Goals as goal

pub head_kind-requires-clause-readable : goal.head_kind-requires-clause-readable
head_kind-requires-clause-readable c = readable_frame _ c.self.invariant (subst (λ s. IsReadable (columns_geo s)) (sym c.self.view_is) c.requires.readable)
