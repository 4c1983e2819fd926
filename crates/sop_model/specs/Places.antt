-- Where the points of a geometry stand.
use Rattle.std.specs.Prelude.{List, map, slice_get, Option, Some}
use Rattle.sop_fixed.specs.declared.vec3.Vec3.{Vec3}
use Rattle.sop_model.specs.declared.geo.Geo.{Geo}
use Rattle.sop_model.specs.declared.geo.Row.{Row}
use Rattle.sop_model.specs.declared.value.Value.{Value}
use Rattle.sop_model.specs.declared.value.Value.TheVariants as value
use Rattle.sop_model.specs.Values.{zero_vector}

-- the vector of a value, zero where it is none
abbrev pub vector_in : Option Value → Vec3
vector_in (Some (value.Vector v)) = v
vector_in _ = zero_vector

-- the place of a point: `P` is the first of its values
abbrev pub place_of : Row → Vec3
place_of row = vector_in (slice_get row.values 0)

-- the places of the points, in the order of their numbers
abbrev pub places_of : Geo → List Vec3
places_of g = map place_of g.points
