-- The range of the vectors that are written, as private contracts speak of it.
use Rattle.std.specs.Prelude.{⊤, ℕ, ◌≤◌, unsigned_abs, All, List, Option, None, Some, codes}
use Rattle.sop_fixed.specs.Numbers.{largest_size}
use Rattle.sop_fixed.specs.declared.vec3.Vec3.{Vec3}
use Rattle.sop_model.specs.declared.class.Class.TheVariants.{Vertex}
use Rattle.sop_model.specs.declared.geo.Geo.{Geo}
use Rattle.sop_model.specs.declared.geo.Row.{Row}
use Rattle.sop_model.specs.Geometry.{rows_of}
use Rattle.geo_text.specs.ObjText.{vector_head, vector_under}

abbrev pub IsRealVector : Vec3 → Type 0
IsRealVector v = (unsigned_abs v.x ≤ largest_size) × (unsigned_abs v.y ≤ largest_size) × (unsigned_abs v.z ≤ largest_size)

-- the vector of a head, where there is the head
abbrev pub IsRealUnder : Option ℕ → Row → Type 0
IsRealUnder None row = ⊤
IsRealUnder (Some head) row = IsRealVector (vector_under head row)

abbrev pub AreRealUnder : Option ℕ → List Row → Type 0
AreRealUnder head rows = All (IsRealUnder head) rows

-- the vectors that the text of a geometry has
pub record AreReal (g : Geo) : Type 0 where
  pub places : AreRealUnder (Some 0) g.points
  pub colours : AreRealUnder (vector_head g.point (codes "Cd")) g.points
  pub textures : AreRealUnder (vector_head g.vertex (codes "uv")) (rows_of g Vertex)
  pub normals : AreRealUnder (vector_head g.vertex (codes "N")) (rows_of g Vertex)
