use Rattle.std.proofs.Common.{◌≡◌, map}
use Rattle.std.specs.List.{range_with_len}
use Rattle.sop_nearest.specs.Cells.{spot_at}
use Rattle.sop_nearest.proofs.cells.sorted_spots.Given as goal

abbrev pub invariant-loop-i : goal.invariant-loop-i
invariant-loop-i l = l.spots.items ≡ map (spot_at l.side l.places) (range_with_len 0 l.i)
