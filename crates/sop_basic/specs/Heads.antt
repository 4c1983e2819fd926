-- An attribute that a node makes sure of: one that is there with its kind stays as it is; one of another kind is deleted first; a new one
-- stands last, with the default of its kind everywhere. And the values under it.
use Rattle.std.specs.Prelude.{ℕ, Bool, true, false, if◌then◌else◌, List, Option, None, Some, codes, bytes_eq}
use Rattle.sop_model.specs.declared.class.Class.{Class}
use Rattle.sop_model.specs.declared.class.Class.TheVariants.{Detail, Prim, Point, Vertex}
use Rattle.sop_model.specs.declared.geo.Geo.{Geo}
use Rattle.sop_model.specs.declared.geo.Head.{Head}
use Rattle.sop_model.specs.declared.value.Kind.{Kind}
use Rattle.sop_model.specs.declared.value.Kind.TheVariants as kind
use Rattle.sop_model.specs.declared.value.Value.{Value}
use Rattle.sop_model.specs.Rows.{column_of, column_held, kind_at, head_named, attr_added, attr_deleted}

-- the name of the points' `P`
abbrev pub is_position : Class → List ℕ → Bool
is_position Point name = bytes_eq name (codes "P")
is_position Detail name = false
is_position Prim name = false
is_position Vertex name = false

abbrev pub is_kind : Kind → Option Kind → Bool
is_kind kind.Int (Some kind.Int) = true
is_kind kind.Real (Some kind.Real) = true
is_kind kind.Vector (Some kind.Vector) = true
is_kind kind.Str (Some kind.Str) = true
is_kind kind.Ints (Some kind.Ints) = true
is_kind kind.Reals (Some kind.Reals) = true
is_kind kind.Vectors (Some kind.Vectors) = true
is_kind kind.Strs (Some kind.Strs) = true
is_kind _ _ = false

-- the geometry with an attribute, where one of its name may stand at a number
abbrev pub with_head_at : Geo → Class → Head → Option ℕ → Geo
with_head_at g class head None = attr_added g class head
with_head_at g class head (Some i) = if is_kind head.kind (kind_at g class i) then g else attr_added (attr_deleted g class i) class head

abbrev pub with_head : Geo → Class → Head → Geo
with_head g class head = with_head_at g class head (head_named g class head.name)

-- the geometry with the values under an attribute changed
abbrev pub with_column_at : Geo → Class → (List Value → List Value) → Option ℕ → Geo
with_column_at g class change None = g
with_column_at g class change (Some i) = column_held g class i (change (column_of g class i))

abbrev pub with_column : Geo → Class → List ℕ → (List Value → List Value) → Geo
with_column g class name change = with_column_at g class change (head_named g class name)
