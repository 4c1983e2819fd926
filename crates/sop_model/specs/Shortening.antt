-- Primitives without the vertices behind their ends, as they stood before some were added.
use Rattle.std.specs.Prelude.{ℕ, ◌-◌, List, [], ◌∷◌, take}
use Rattle.sop_model.specs.declared.geo.Primitive.{Primitive}

-- each primitive with as many vertices as stand between the end before and its own
abbrev pub shortened : ℕ → List ℕ → List Primitive → List Primitive
shortened before [] prims = prims
shortened before (e ∷ ends) [] = []
shortened before (e ∷ ends) (p ∷ prims) = (record p { corners = take (e - before) p.corners }) ∷ shortened e ends prims
