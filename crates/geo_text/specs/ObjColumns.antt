-- A geometry in columns: a list of values for each attribute, and the shape of its primitives.
--
-- A column may be longer than the elements that were taken; what stands behind them says nothing.
use Rattle.std.specs.Prelude.{◌≡◌, ℕ, ◌-◌, ◌≤◌, Bool, false, IsTrue, ⊤, List, [], ◌∷◌, ◌++◌, length, map, replicate, Some, slice_index_or, All}
use Rattle.std.specs.List.{range_with_len}
use Rattle.sop_fixed.specs.declared.vec3.Vec3.{Vec3}
use Rattle.sop_model.specs.declared.geo.Geo.{Geo}
use Rattle.sop_model.specs.declared.geo.Row.{Row}
use Rattle.sop_model.specs.declared.geo.Corner.{Corner}
use Rattle.sop_model.specs.declared.geo.Primitive.{Primitive}
use Rattle.sop_model.specs.Values.{zero_vector}
use Rattle.geo_text.specs.declared.taker.Attributes.{Attributes}
use Rattle.geo_text.specs.declared.taker.Vertex.{Vertex}
use Rattle.geo_text.specs.declared.columns.Outline.{Outline}
use Rattle.geo_text.specs.declared.vertex_columns.VertexVector.{VertexVector}
use Rattle.geo_text.specs.declared.vertex_columns.VertexVector.TheVariants as vector
use Rattle.geo_text.specs.ObjTaking.{begun, point_row, vertex_taken}

pub record ColumnLists : Type 0 where
  pub attributes : Attributes
  -- the geometry without points and primitives
  pub frame : Geo
  pub places : List Vec3
  pub colours : List Vec3
  -- for each primitive the number behind that of its last vertex
  pub ends : List ℕ
  pub outlines : List Outline
  -- the point of each vertex
  pub refers : List ℕ
  pub textures : List Vec3
  pub normals : List Vec3

abbrev pub columns_with : Attributes → Geo → List Vec3 → List Vec3 → List ℕ → List Outline → List ℕ → List Vec3 → List Vec3 → ColumnLists
columns_with attributes frame places colours ends outlines refers textures normals = record {
  attributes = attributes;
  frame = frame;
  places = places;
  colours = colours;
  ends = ends;
  outlines = outlines;
  refers = refers;
  textures = textures;
  normals = normals;
}

abbrev pub vector_at_vertex : VertexVector → Vertex → Vec3
vector_at_vertex vector.Texture v = v.texture
vector_at_vertex vector.Normal v = v.normal

abbrev pub point_in : Attributes → List Vec3 → List Vec3 → ℕ → Row
point_in has places colours i = point_row has (slice_index_or places i zero_vector) (Some (slice_index_or colours i zero_vector))

-- the rows of the points
abbrev pub points_in : Attributes → List Vec3 → List Vec3 → List Row
points_in has places colours = map (point_in has places colours) (range_with_len 0 (length places))

abbrev pub vertex_in : List ℕ → List Vec3 → List Vec3 → ℕ → Vertex
vertex_in refers textures normals i = record {
  point = slice_index_or refers i 0;
  texture = slice_index_or textures i zero_vector;
  normal = slice_index_or normals i zero_vector;
}

abbrev pub corner_in : Attributes → List ℕ → List Vec3 → List Vec3 → ℕ → Corner
corner_in has refers textures normals i = vertex_taken has (vertex_in refers textures normals i)

-- whether a primitive is in each of so many groups: in none that came later
abbrev pub flags_among : ℕ → Outline → List Bool
flags_among groups o = o.flags.items ++ replicate (groups - o.known) false

abbrev pub outlined_prim : (ℕ → Corner) → ℕ → ℕ → ℕ → Outline → Primitive
outlined_prim corner groups start end o = record {
  closed = o.closed;
  row = record { values = []; flags = flags_among groups o };
  corners = map corner (range_with_len start (end - start));
}

-- the primitives, where the vertices of the first begin with this number
abbrev pub outlined_prims : (ℕ → Corner) → ℕ → ℕ → List ℕ → List Outline → List Primitive
outlined_prims corner groups start [] outlines = []
outlined_prims corner groups start (end ∷ ends) [] = []
outlined_prims corner groups start (end ∷ ends) (o ∷ outlines) = outlined_prim corner groups start end o ∷ outlined_prims corner groups end ends outlines

-- the geometry
abbrev pub columns_geo : ColumnLists → Geo
columns_geo c = record c.frame {
  points = points_in c.attributes c.places c.colours;
  prims = outlined_prims (corner_in c.attributes c.refers c.textures c.normals) (length c.frame.prim.groups) 0 c.ends c.outlines;
}

-- the last end, or the start where there is none
abbrev pub last_end : ℕ → List ℕ → ℕ
last_end start [] = start
last_end start (end ∷ ends) = last_end end ends

abbrev pub Rise : ℕ → List ℕ → Type 0
Rise start [] = ⊤
Rise start (end ∷ ends) = (start ≤ end) × Rise end ends

-- a column that is looked at has a value for each of so many elements
abbrev pub Fills : {A : Type 0} → Bool → ℕ → List A → Type 0
Fills has count values = IsTrue has → count ≤ length values

-- the geometry of these attributes and groups of primitives, without points and primitives
abbrev pub frame_of : Attributes → List (List ℕ) → Geo
frame_of has groups = record (begun has) { prim = record { heads = []; groups = groups } }

-- the columns have all values of what was taken
pub record AreComplete (c : ColumnLists) : Type 0 where
  pub frame : c.frame ≡ frame_of c.attributes c.frame.prim.groups
  pub colours : Fills c.attributes.colour (length c.places) c.colours
  pub rise : Rise 0 c.ends
  pub outlines : length c.ends ≤ length c.outlines
  pub known : All (λ o. o.known ≤ length c.frame.prim.groups) c.outlines
  pub refers : last_end 0 c.ends ≤ length c.refers
  pub textures : Fills c.attributes.texture (last_end 0 c.ends) c.textures
  pub normals : Fills c.attributes.normal (last_end 0 c.ends) c.normals
