use Rattle.std.proofs.Common.{◌+◌, ◌≤◌, length, map, take}
use Rattle.std.specs.Prelude.{vec_len, vec_capacity}
use Rattle.sop_model.specs.Values.{default_of}
use Rattle.sop_tables.specs.Transposed.{filled_each}
use Rattle.sop_tables.specs.Fresh.{AreMade}
use Rattle.sop_tables.proofs.fresh.push_fresh.Given as goal

abbrev pub invariant-loop-head : goal.invariant-loop-head
invariant-loop-head l = record {
  made : AreMade l.fn.shelf l.shelf l.fn.names l.names l.count (take l.head-index l.heads) (take l.head-index (filled_each l.count (map (λ head. default_of head.kind) l.heads))) l.columns.items;
  room : vec_len l.columns + length l.heads ≤ vec_capacity l.columns + l.head-index;
}
