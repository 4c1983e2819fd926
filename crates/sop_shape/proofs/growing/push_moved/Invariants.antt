use Rattle.std.proofs.Common.{◌≡◌, ◌+◌, ◌≤◌, ◌++◌, length, map, take}
use Rattle.std.specs.Prelude.{vec_len, vec_capacity}
use Rattle.sop_shape.proofs.growing.push_moved.Given as goal

abbrev pub invariant-loop-number : goal.invariant-loop-number
invariant-loop-number l = record {
  items : l.list.items ≡ l.initial.list.items ++ map (λ n. l.by + n) (take l.number-index l.more);
  room : vec_len l.list + length l.more ≤ vec_capacity l.list + l.number-index;
}
