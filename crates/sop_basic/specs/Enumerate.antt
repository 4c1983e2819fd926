-- `enumerate`: the class `class` has an attribute `name` of whole numbers, and under it the selected elements count from 0. BadParm for a bad
-- name and the points' `P`. An attribute of another kind is deleted, and made anew last. Elements that aren't selected keep their number, or
-- have 0 under a new attribute.
use Rattle.std.specs.Prelude.{ℕ, suc, Bool, true, false, ◌&&◌, not, if◌then◌else◌, pos, List, [], ◌∷◌, Ok, Err}
use Rattle.sop_model.specs.declared.class.Class.{Class}
use Rattle.sop_model.specs.declared.geo.Geo.{Geo}
use Rattle.sop_model.specs.declared.fault.Fault.TheVariants.{BadParm}
use Rattle.sop_model.specs.declared.value.Kind.TheVariants as kind
use Rattle.sop_model.specs.declared.value.Value.{Value}
use Rattle.sop_model.specs.declared.value.Value.TheVariants as value
use Rattle.sop_model.specs.Names.{is_name}
use Rattle.sop_net.specs.Network.{parm_at}
use Rattle.sop_basic.specs.ParmTexts.{class_in}
use Rattle.sop_basic.specs.Outcomes.{Outcome, then_with}
use Rattle.sop_basic.specs.Selecting.{by_pattern}
use Rattle.sop_basic.specs.Heads.{is_position, with_head, with_column}

-- the selected ones count from k on
abbrev pub counted_from : ℕ → List Bool → List Value → List Value
counted_from k [] values = values
counted_from k (on ∷ flags) [] = []
counted_from k (true ∷ flags) (old ∷ values) = value.Int (pos k) ∷ counted_from (suc k) flags values
counted_from k (false ∷ flags) (old ∷ values) = old ∷ counted_from k flags values

-- the geometry with the selected elements counted under a name
abbrev pub counted_under : Class → List ℕ → Geo → List Bool → Geo
counted_under class name g flags = with_column (with_head g class (record { name = name; kind = kind.Int })) class name (counted_from 0 flags)

-- whether a class may have its elements counted under a name
abbrev pub may_count : Class → List ℕ → Bool
may_count class name = is_name name && not (is_position class name)

-- `class`, `name`, `group`
abbrev pub enumerate_geo : List (List ℕ) → Geo → Outcome
enumerate_geo parms g =
    let class = class_in (parm_at parms 0) in
    let name = parm_at parms 1 in
    if may_count class name then then_with (by_pattern g class (parm_at parms 2)) (λ flags. Ok (counted_under class name g flags)) else Err BadParm
