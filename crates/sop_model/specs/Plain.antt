-- Plain geometries: `P` is their only attribute, and they have no group.
--
-- A point then has a position and nothing else, and primitives, vertices and the detail have no value.
use Rattle.std.specs.Prelude.{◌≡◌, List, [], ◌∷◌, map, All}
use Rattle.sop_fixed.specs.declared.vec3.Vec3.{Vec3}
use Rattle.sop_model.specs.declared.geo.Geo.{Geo}
use Rattle.sop_model.specs.declared.geo.Row.{Row}
use Rattle.sop_model.specs.declared.geo.Primitive.{Primitive}
use Rattle.sop_model.specs.declared.value.Value.TheVariants as value
use Rattle.sop_model.specs.Vertices.{corners_of}
use Rattle.sop_model.specs.Geometry.{HasOnlyPosition, empty_row, empty_geo}

-- the geometry of these points and primitives, with the attribute `P` alone
abbrev pub plain_geo : List Row → List Primitive → Geo
plain_geo points prims = record empty_geo { points = points; prims = prims }

-- the row of a point that has a position and nothing else
abbrev pub point_row : Vec3 → Row
point_row v = record { values = value.Vector v ∷ []; flags = [] }

-- points alone, at these places
abbrev pub geo_of_points : List Vec3 → Geo
geo_of_points places = plain_geo (map point_row places) []

abbrev pub IsPointRow : Row → Type 0
IsPointRow row = (v : Vec3) × (row ≡ point_row v)

-- `P` is the only attribute, there is no group, and each row is as these ask
pub record IsPlain (g : Geo) : Type 0 where
  pub only : HasOnlyPosition g
  pub points : All IsPointRow g.points
  pub prims : All (λ p. p.row ≡ empty_row) g.prims
  pub corners : All (λ c. c.row ≡ empty_row) (corners_of g.prims)
  pub detail : g.detail_row ≡ empty_row
