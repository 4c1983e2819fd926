use Rattle.std.proofs.Common.{◌≡◌, ◌++◌, take}
use Rattle.std.specs.List.{flat_map}
use Rattle.sop_nearest.specs.Cells.{hits_at}
use Rattle.sop_nearest.proofs.cells.measure_row.Given as goal

abbrev pub invariant-loop-spot : goal.invariant-loop-spot
invariant-loop-spot l = l.hits.items ≡ l.initial.hits.items ++ flat_map (λ s. hits_at l.places l.ball s.number) (take l.spot-index l.row)
