use Rattle.std.proofs.Common.{◌≡◌, take}
use Rattle.sop_model.specs.Rows.{picked}
use Rattle.sop_shape.proofs.lists.pick.Given as goal

abbrev pub invariant-loop-place : goal.invariant-loop-place
invariant-loop-place g l = (d : g.row.T.Denot) → l.made.items ≡ picked l.items d (take l.place-index l.places)
