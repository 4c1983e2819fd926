-- Whether two sheets are within the limits together, one behind the other.
use Rattle.std.specs.Prelude.{◌+◌, ◌≤◌}
use Rattle.sop_model.specs.declared.class.Class.{Class}
use Rattle.sop_model.specs.Geometry.{AreKept, set_bounds}
use Rattle.sop_model.specs.Limits.{most_points, most_prims, most_vertices}
use Rattle.sop_rows.specs.Both.{both_sets}
use Rattle.sop_sheets.specs.Sheets.{SheetLists, table_of}

-- the elements of both
pub record CountsFit (one two : SheetLists) : Type 0 where
  pub points : one.point.count + two.point.count ≤ most_points
  pub prims : one.prim.count + two.prim.count ≤ most_prims
  pub vertices : one.vertex.count + two.vertex.count ≤ most_vertices

-- the heads and groups of both in a class, and class by class
pub record SetFits (one two : SheetLists) (class : Class) : Type 0 where
  pub kept : AreKept (set_bounds (both_sets (table_of one class).set (table_of two class).set))

pub record SetsFit (one two : SheetLists) : Type 0 where
  pub each : (class : Class) → SetFits one two class

-- the heads and groups of each, class by class
pub record SetsKept (sheet : SheetLists) : Type 0 where
  pub each : (class : Class) → AreKept (set_bounds (table_of sheet class).set)
