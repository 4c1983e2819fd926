-- Marks on the elements of a geometry, set one by one.
use Rattle.std.specs.Prelude.{ℕ, Bool, true, false, if◌then◌else◌, replicate, slice_set}
use Rattle.sop_model.specs.declared.class.Class.TheVariants.{Prim, Point, Vertex}
use Rattle.sop_model.specs.declared.geo.Geo.{Geo}
use Rattle.sop_model.specs.Geometry.{count_of}
use Rattle.sop_model.specs.Sweep.{MarkSet}

-- none is set
abbrev pub no_marks : Geo → MarkSet
no_marks g = record {
  points = replicate (count_of g Point) false;
  vertices = replicate (count_of g Vertex) false;
  prims = replicate (count_of g Prim) false;
  with_points = replicate (count_of g Prim) false;
}

abbrev pub point_marked : MarkSet → ℕ → MarkSet
point_marked marks i = record marks { points = slice_set marks.points i true }

abbrev pub vertex_marked : MarkSet → ℕ → MarkSet
vertex_marked marks i = record marks { vertices = slice_set marks.vertices i true }

-- a primitive, and where it is asked for its points with it
abbrev pub prim_marked : MarkSet → ℕ → Bool → MarkSet
prim_marked marks i and_points = record marks {
  prims = slice_set marks.prims i true;
  with_points = if and_points then slice_set marks.with_points i true else marks.with_points;
}
