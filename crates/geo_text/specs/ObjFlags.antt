-- Flags of primitives as private contracts speak of them.
use Rattle.std.specs.Prelude.{ℕ, ◌-◌, ◌==◌, Bool, true, false, List, [], ◌++◌, slice_index_or, codes}
use Rattle.sop_model.specs.declared.geo.Geo.{Geo}
use Rattle.sop_model.specs.Rows.{no_prim}
use Rattle.geo_text.specs.ObjText.{no_flags}

abbrev pub flags_at : (first : Bool) → Geo → ℕ → List Bool
flags_at true g i = no_flags g
flags_at false g i = (slice_index_or g.prims i no_prim).row.flags

-- the flags of the primitive before another
abbrev pub flags_before : Geo → ℕ → List Bool
flags_before g i = flags_at (i == 0) g (i - 1)

-- a name, where it is wanted
abbrev pub name_if : Bool → List ℕ → List ℕ
name_if true name = codes " " ++ name
name_if false name = []
