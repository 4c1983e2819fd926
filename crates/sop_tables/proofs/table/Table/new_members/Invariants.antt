use Rattle.std.proofs.Common.{◌+◌, ◌≤◌, length, vec_len, vec_capacity}
use Rattle.sop_tables.specs.Changes.{AreNewMembers, count_after, all_flags_after}
use Rattle.sop_tables.proofs.table.Table.new_members.Given as goal

abbrev pub invariant-loop-k : goal.invariant-loop-k
invariant-loop-k l = record {
  room : vec_len l.made + length l.groups ≤ vec_capacity l.made + l.k;
  made : AreNewMembers l.initial.shelf l.shelf (count_after l.self.count l.change) l.k (all_flags_after l.initial.shelf l.self l.change l.groups l.k) l.made.items;
}
