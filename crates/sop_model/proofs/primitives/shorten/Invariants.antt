use Rattle.std.proofs.Common.{◌≡◌, ◌∷◌, take, get_or}
use Rattle.sop_model.specs.Shortening.{shortened}
use Rattle.sop_model.proofs.primitives.shorten.Given as goal

abbrev pub invariant-loop-i : goal.invariant-loop-i
invariant-loop-i l = record {
  cut : l.prims ≡ shortened 0 (take l.i l.ends) l.initial.prims;
  first : l.first ≡ get_or (0 ∷ l.ends) l.i 0;
}
