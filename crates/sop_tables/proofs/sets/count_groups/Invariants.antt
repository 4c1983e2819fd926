use Rattle.std.proofs.Common.{◌≡◌, ◌≤◌, length, take}
use Rattle.std.specs.Prelude.{not, filter}
use Rattle.std.specs.List.{list_any}
use Rattle.std.specs.Str.{bytes_eq}
use Rattle.sop_tables.proofs.sets.count_groups.Given as goal

abbrev pub invariant-loop-name : goal.invariant-loop-name
invariant-loop-name l = record {
  is : l.count ≡ length (filter (λ name. not (list_any (λ k. bytes_eq k name) l.first)) (take l.name-index l.more));
  few : l.count ≤ l.name-index;
}
