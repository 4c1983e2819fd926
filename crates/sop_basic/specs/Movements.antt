-- Points moved one after the other, each to where a rule takes it by its number and its place. For private contracts.
use Rattle.std.specs.Prelude.{ℕ, suc, List, [], ◌∷◌, map, slice_index_or, Result, Ok, Err}
use Rattle.std.specs.List.{range_with_len}
use Rattle.sop_fixed.specs.declared.fault.NumFault.{NumFault}
use Rattle.sop_fixed.specs.declared.vec3.Vec3.{Vec3}
use Rattle.sop_model.specs.declared.class.Class.TheVariants.{Point}
use Rattle.sop_model.specs.declared.geo.Geo.{Geo}
use Rattle.sop_model.specs.declared.geo.Row.{Row}
use Rattle.sop_model.specs.declared.fault.Fault.{Fault}
use Rattle.sop_model.specs.declared.fault.Fault.TheVariants.{Range}
use Rattle.sop_model.specs.declared.value.Value.TheVariants as value
use Rattle.sop_model.specs.Geometry.{empty_row}
use Rattle.sop_model.specs.Values.{zero_vector}
use Rattle.sop_model.specs.Places.{place_of}
use Rattle.sop_model.specs.Rows.{with_value, value_set}
use Rattle.sop_basic.specs.Outcomes.{Outcome, then_with, all_in_range}
use Rattle.sop_basic.specs.Shapes.{shape}

-- where each point goes
abbrev pub Rule : Type 0
Rule = ℕ → Vec3 → Result Vec3 NumFault

-- a result of point i, or its fault
abbrev pub of_point : {A : Type 0} → ℕ → Result A NumFault → Result A Fault
of_point i (Ok x) = Ok x
of_point i (Err e) = Err (Range i)

-- point i moved
abbrev pub point_moved : Rule → Geo → ℕ → Outcome
point_moved rule g i = then_with (of_point i (rule i (place_of (slice_index_or g.points i empty_row)))) (λ v. Ok (value_set g Point 0 i (value.Vector v)))

-- the rows of points moved, from the number i on
abbrev pub rows_moved : Rule → ℕ → List Row → Result (List Row) Fault
rows_moved rule i [] = Ok []
rows_moved rule i (row ∷ rows) =
    then_with (of_point i (rule i (place_of row))) (λ v.
    then_with (rows_moved rule (suc i) rows) (λ moved. Ok (with_value 0 (value.Vector v) row ∷ moved)))

-- all points moved
abbrev pub points_moved : Rule → Geo → Outcome
points_moved rule g = then_with (rows_moved rule 0 g.points) (λ rows. Ok (record g { points = rows }))

-- so many points made where a rule takes them from the middle
abbrev pub points_made : Rule → ℕ → Outcome
points_made rule count = then_with (all_in_range (map (λ i. rule i zero_vector) (range_with_len 0 count))) (λ places. Ok (shape places []))
