use Rattle.std.proofs.Common.{◌≡◌, ◌++◌, map, take, drop}
use Rattle.std.specs.Prelude.{min}
use Rattle.sop_shape.proofs.adding.lower.Given as goal

abbrev pub invariant-loop-number : goal.invariant-loop-number
invariant-loop-number l = l.number-items ≡ map (λ n. min n l.most) (take l.number-index l.initial.number-items) ++ drop l.number-index l.initial.number-items
