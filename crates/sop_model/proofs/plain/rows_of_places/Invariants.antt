use Rattle.std.proofs.Common.{◌≡◌, take}
use Rattle.std.specs.Prelude.{map}
use Rattle.sop_model.specs.Plain.{point_row}
use Rattle.sop_model.proofs.plain.rows_of_places.Given as goal

abbrev pub invariant-loop-place : goal.invariant-loop-place
invariant-loop-place l = l.rows ≡ map point_row (take l.place-index l.places)
