-- `blast`: the elements of the class `class` that `group` selects, or with `negate` all others of the class, are marked, and a sweep takes
-- them away with what can't stay. Primitives are marked with their points where `unused` is 1.
use Rattle.std.specs.Prelude.{ℕ, Bool, false, not, if◌then◌else◌, List, map, replicate, Ok, codes, bytes_eq}
use Rattle.sop_model.specs.declared.class.Class.{Class}
use Rattle.sop_model.specs.declared.class.Class.TheVariants.{Detail, Prim, Point, Vertex}
use Rattle.sop_model.specs.declared.geo.Geo.{Geo}
use Rattle.sop_model.specs.Geometry.{count_of}
use Rattle.sop_model.specs.Sweep.{MarkSet, swept}
use Rattle.sop_rows.specs.Marking.{no_marks}
use Rattle.sop_net.specs.Network.{parm_at}
use Rattle.sop_basic.specs.ParmTexts.{class_in}
use Rattle.sop_basic.specs.Outcomes.{Outcome, then_with}
use Rattle.sop_basic.specs.Selecting.{by_pattern}

-- a parameter that is `0` or `1`
abbrev pub is_on : List ℕ → Bool
is_on text = bytes_eq text (codes "1")

-- the elements that are marked: the selected, or with `negate` the others
abbrev pub chosen : Bool → List Bool → List Bool
chosen negate flags = if negate then map not flags else flags

-- marks on these elements of a class; the detail is never marked
abbrev pub marks_on : Geo → Class → Bool → List Bool → MarkSet
marks_on g Detail and_points flags = no_marks g
marks_on g Prim and_points flags = record (no_marks g) { prims = flags; with_points = if and_points then flags else replicate (count_of g Prim) false }
marks_on g Point and_points flags = record (no_marks g) { points = flags }
marks_on g Vertex and_points flags = record (no_marks g) { vertices = flags }

-- `class`, `group`, `negate`, `unused`
abbrev pub blast_geo : List (List ℕ) → Geo → Outcome
blast_geo parms g =
    let class = class_in (parm_at parms 0) in
    then_with (by_pattern g class (parm_at parms 1)) (λ flags.
    Ok (swept g (marks_on g class (is_on (parm_at parms 3)) (chosen (is_on (parm_at parms 2)) flags))))
