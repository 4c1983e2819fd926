-- One geometry behind another: the merge of both.
use Rattle.std.specs.Prelude.{[], ◌∷◌}
use Rattle.sop_model.specs.declared.geo.Geo.{Geo}
use Rattle.sop_model.specs.Merge.{merged}

abbrev pub appended : Geo → Geo → Geo
appended a b = merged (a ∷ b ∷ [])
