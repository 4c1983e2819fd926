use Rattle.std.proofs.Common.{◌+◌, ◌≤◌, length, take, vec_len, vec_capacity}
use Rattle.sop_tables.specs.Changes.{AreNewColumns, count_after, all_values_after}
use Rattle.sop_tables.proofs.table.Table.new_columns.Given as goal

abbrev pub invariant-loop-k : goal.invariant-loop-k
invariant-loop-k l = record {
  room : vec_len l.made + length l.heads ≤ vec_capacity l.made + l.k;
  made : AreNewColumns l.initial.shelf l.shelf l.initial.names l.names (count_after l.self.count l.change) (take l.k l.heads) (all_values_after l.initial.shelf l.initial.names l.self l.change l.heads l.k) l.made.items;
}
