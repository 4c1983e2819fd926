use Rattle.std.proofs.Common.{◌≡◌, ◌∷◌, take, get_or}
use Rattle.sop_model.specs.Sweep.{is_marked, how_many}
use Rattle.sop_shape.specs.Tests.{grows}
use Rattle.sop_shape.proofs.staying.prims_left.Given as goal

abbrev pub invariant-loop-end : goal.invariant-loop-end
invariant-loop-end l = record {
  made : l.made.items ≡ grows (is_marked l.staying) 0 (take l.end-index l.ends);
  before : l.before ≡ how_many (is_marked l.staying) (get_or (0 ∷ l.ends) l.end-index 0);
}
