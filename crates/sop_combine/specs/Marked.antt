-- One element marked after the other, and one row of a class changed after the other. For private contracts.
use Rattle.std.specs.Prelude.{⊤, ℕ, suc, ◌<◌, Bool, false, List, [], ◌∷◌, length, slice_index_or}
use Rattle.sop_model.specs.declared.class.Class.{Class}
use Rattle.sop_model.specs.declared.class.Class.TheVariants.{Detail, Prim, Point, Vertex}
use Rattle.sop_model.specs.declared.geo.Geo.{Geo}
use Rattle.sop_model.specs.declared.geo.Row.{Row}
use Rattle.sop_model.specs.Geometry.{rows_of}
use Rattle.sop_model.specs.Sweep.{MarkSet}
use Rattle.sop_model.specs.Rows.{with_flag, with_rows}
use Rattle.sop_rows.specs.Marking.{point_marked, vertex_marked, prim_marked}
use Rattle.sop_combine.specs.declared.group_create.Combination.{Combination}
use Rattle.sop_combine.specs.GroupCreate.{combined}

abbrev pub marked_at : MarkSet → Class → ℕ → Bool → MarkSet
marked_at marks Detail i and_points = marks
marked_at marks Prim i and_points = prim_marked marks i and_points
marked_at marks Point i and_points = point_marked marks i
marked_at marks Vertex i and_points = vertex_marked marks i

-- there is a mark for the element of this number
abbrev pub HasMark : MarkSet → Class → ℕ → Type 0
HasMark marks Detail i = ⊤
HasMark marks Prim i = (i < length marks.prims) × (i < length marks.with_points)
HasMark marks Point i = i < length marks.points
HasMark marks Vertex i = i < length marks.vertices

-- a change of rows, by the number of the element
abbrev pub Change : Type 0
Change = ℕ → Row → Row

-- rows changed, from the number i on
abbrev pub rows_changed : Change → ℕ → List Row → List Row
rows_changed change i [] = []
rows_changed change i (row ∷ rows) = change i row ∷ rows_changed change (suc i) rows

-- every row of a class changed
abbrev pub class_changed : Change → Geo → Class → Geo
class_changed change g class = with_rows g class (rows_changed change 0 (rows_of g class))

-- the flag of a group combined with whether the element is selected
abbrev pub flag_combined : Combination → ℕ → Bool → Row → Row
flag_combined combination group selected row = with_flag group (combined combination (slice_index_or row.flags group false) selected) row

abbrev pub combining : Combination → ℕ → List Bool → Change
combining combination group flags i row = flag_combined combination group (slice_index_or flags i false) row
