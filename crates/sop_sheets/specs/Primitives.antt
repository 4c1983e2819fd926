-- Primitives made of their parts: which are closed, where the vertices of each end, the points of the vertices, and the rows of both.
use Rattle.std.specs.Prelude.{ℕ, ◌-◌, Bool, List, [], ◌∷◌, take, drop}
use Rattle.sop_model.specs.declared.geo.Row.{Row}
use Rattle.sop_model.specs.declared.geo.Corner.{Corner}
use Rattle.sop_model.specs.declared.geo.Primitive.{Primitive}

-- vertices, each with its point and its row
abbrev pub corners_from : List ℕ → List Row → List Corner
corners_from [] vs = []
corners_from (point ∷ refers) [] = []
corners_from (point ∷ refers) (v ∷ vs) = record { point = point; row = v } ∷ corners_from refers vs

-- primitives, each with its row and its vertices up to its end, where so many vertices stand before the first
abbrev pub prims_from : ℕ → List Bool → List ℕ → List ℕ → List Row → List Row → List Primitive
prims_from before [] ends refers rs vs = []
prims_from before (closed ∷ flags) [] refers rs vs = []
prims_from before (closed ∷ flags) (end ∷ ends) refers [] vs = []
prims_from before (closed ∷ flags) (end ∷ ends) refers (r ∷ rs) vs =
    record { closed = closed; row = r; corners = corners_from (take (end - before) refers) (take (end - before) vs) }
    ∷ prims_from end flags ends (drop (end - before) refers) rs (drop (end - before) vs)
