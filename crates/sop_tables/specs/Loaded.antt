-- What a class of a geometry has, attribute by attribute and group by group, as a table is loaded with it.
use Rattle.std.specs.Prelude.{ℕ, Bool, false, List, slice_index_or}
use Rattle.sop_model.specs.declared.class.Class.{Class}
use Rattle.sop_model.specs.declared.geo.Geo.{Geo}
use Rattle.sop_model.specs.declared.value.Value.{Value}
use Rattle.sop_model.specs.Geometry.{empty_row, rows_of}
use Rattle.sop_model.specs.Rows.{column_of}
use Rattle.sop_tables.specs.Transposed.{tabulated}

-- the values of the first attributes, so many of them
abbrev pub columns_of : Geo → Class → ℕ → List (List Value)
columns_of g class many = tabulated many (column_of g class)

-- whether an element is in the group with this number
abbrev pub is_member : Geo → Class → ℕ → ℕ → Bool
is_member g class group i = slice_index_or (slice_index_or (rows_of g class) i empty_row).flags group false

-- the flags of an element in the first groups, so many of them
abbrev pub members_of : Geo → Class → ℕ → ℕ → List Bool
members_of g class many i = tabulated many (λ group. is_member g class group i)
