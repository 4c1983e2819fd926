use Rattle.std.proofs.Common.{◌≡◌}
use Rattle.std.specs.List.{range_with_len}
use Rattle.sop_model.specs.Sweep.{is_marked, kept}
use Rattle.sop_shape.proofs.lists.set_places.Given as goal

abbrev pub invariant-loop-place : goal.invariant-loop-place
invariant-loop-place l = l.places.items ≡ kept (is_marked l.flags) 0 (range_with_len 0 l.place)
