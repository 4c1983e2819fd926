-- A geometry, or the fault of a node: how faults follow one another.
--
-- A node's own faults come in this order: what its parameters are, in the order of the table, then its group pattern, then arithmetic, by the
-- least element whose result is out of range, then Limit.
use Rattle.std.specs.Prelude.{ℕ, suc, if◌then◌else◌, ℤ, List, [], ◌∷◌, Result, Ok, Err}
use Rattle.sop_fixed.specs.declared.fault.NumFault.{NumFault}
use Rattle.sop_fixed.specs.declared.vec3.Vec3.{Vec3}
use Rattle.sop_model.specs.declared.geo.Geo.{Geo}
use Rattle.sop_model.specs.declared.fault.Fault.{Fault}
use Rattle.sop_model.specs.declared.fault.Fault.TheVariants.{Range, Limit}
use Rattle.sop_model.specs.Geometry.{fits}

-- what a node makes
abbrev pub Outcome : Type 0
Outcome = Result Geo Fault

abbrev pub then_with : {A B E : Type 0} → Result A E → (A → Result B E) → Result B E
then_with (Ok a) go = go a
then_with (Err e) go = Err e

-- a geometry that passes no limit
abbrev pub within_limits : Geo → Outcome
within_limits g = if fits g then Ok g else Err Limit

-- the outcome, where its geometry passes no limit: the last of a node's faults
abbrev pub limited : Outcome → Outcome
limited outcome = then_with outcome within_limits

-- a vector of three results
abbrev pub vector_of : Result ℤ NumFault → Result ℤ NumFault → Result ℤ NumFault → Result Vec3 NumFault
vector_of x y z = then_with x (λ x. then_with y (λ y. then_with z (λ z. Ok (record { x = x; y = y; z = z }))))

-- the results of elements, numbered from i on, or Range of the first that has none
abbrev pub in_range_from : {A : Type 0} → ℕ → List (Result A NumFault) → Result (List A) Fault
in_range_from i [] = Ok []
in_range_from i (Err e ∷ results) = Err (Range i)
in_range_from i (Ok x ∷ results) = then_with (in_range_from (suc i) results) (λ xs. Ok (x ∷ xs))

abbrev pub all_in_range : {A : Type 0} → List (Result A NumFault) → Result (List A) Fault
all_in_range results = in_range_from 0 results
