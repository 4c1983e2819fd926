-- `groupcreate`: the class `class` has a group `name`, whose old members, none of a new group, are combined with the elements that `group`
-- selects. BadParm for a bad name. What is selected is judged before the group is made. A new group stands behind the others.
use Rattle.std.specs.Prelude.{ℕ, Bool, false, ◌&&◌, ◌||◌, not, if◌then◌else◌, List, [], ◌∷◌, slice_index_or, Option, None, Some, Ok, Err, codes, bytes_eq}
use Rattle.sop_model.specs.declared.class.Class.{Class}
use Rattle.sop_model.specs.declared.geo.Geo.{Geo}
use Rattle.sop_model.specs.declared.geo.Row.{Row}
use Rattle.sop_model.specs.declared.fault.Fault.TheVariants.{BadParm}
use Rattle.sop_model.specs.Names.{is_name}
use Rattle.sop_model.specs.Geometry.{rows_of}
use Rattle.sop_model.specs.Rows.{with_flag, with_rows, group_named, group_added}
use Rattle.sop_net.specs.Network.{parm_at}
use Rattle.sop_combine.specs.declared.group_create.Combination.{Combination}
use Rattle.sop_combine.specs.declared.group_create.Combination.TheVariants.{Replace, Union, Intersect, Subtract}
use Rattle.sop_basic.specs.ParmTexts.{class_in}
use Rattle.sop_basic.specs.Outcomes.{Outcome, then_with}
use Rattle.sop_basic.specs.Selecting.{by_pattern}

-- the word of `op`
abbrev pub combination_in : List ℕ → Combination
combination_in text =
    if bytes_eq text (codes "union") then Union
    else if bytes_eq text (codes "intersect") then Intersect
    else if bytes_eq text (codes "subtract") then Subtract
    else Replace

-- whether an element is a member, by whether it was one and whether it is selected
abbrev pub combined : Combination → Bool → Bool → Bool
combined Replace old selected = selected
combined Union old selected = old || selected
combined Intersect old selected = old && selected
combined Subtract old selected = old && not selected

-- the geometry with a group, where one of its name may stand at a number
abbrev pub with_group_at : Geo → Class → List ℕ → Option ℕ → Geo
with_group_at g class name None = group_added g class name
with_group_at g class name (Some i) = g

abbrev pub with_group : Geo → Class → List ℕ → Geo
with_group g class name = with_group_at g class name (group_named g class name)

-- rows with their flags of a group combined with these
abbrev pub rows_combined : Combination → ℕ → List Row → List Bool → List Row
rows_combined op group [] flags = []
rows_combined op group (row ∷ rows) [] = row ∷ rows
rows_combined op group (row ∷ rows) (on ∷ flags) = with_flag group (combined op (slice_index_or row.flags group false) on) row ∷ rows_combined op group rows flags

abbrev pub members_combined_at : Combination → Geo → Class → List Bool → Option ℕ → Geo
members_combined_at op g class flags None = g
members_combined_at op g class flags (Some group) = with_rows g class (rows_combined op group (rows_of g class) flags)

-- the geometry with the members of a group combined with the elements of these flags
abbrev pub members_combined : Combination → Geo → Class → List ℕ → List Bool → Geo
members_combined op g class name flags = members_combined_at op g class flags (group_named g class name)

-- `class`, `name`, `group`, `op`
abbrev pub groupcreate_geo : List (List ℕ) → Geo → Outcome
groupcreate_geo parms g =
    let class = class_in (parm_at parms 0) in
    let name = parm_at parms 1 in
    if is_name name
    then then_with (by_pattern g class (parm_at parms 2)) (λ flags. Ok (members_combined (combination_in (parm_at parms 3)) (with_group g class name) class name flags))
    else Err BadParm
