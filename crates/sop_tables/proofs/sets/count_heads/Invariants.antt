use Rattle.std.proofs.Common.{◌≡◌, ◌≤◌, length, take}
use Rattle.std.specs.Prelude.{not, filter}
use Rattle.std.specs.List.{list_any}
use Rattle.std.specs.Str.{bytes_eq}
use Rattle.sop_tables.proofs.sets.count_heads.Given as goal

abbrev pub invariant-loop-head : goal.invariant-loop-head
invariant-loop-head l = record {
  is : l.count ≡ length (filter (λ h. not (list_any (λ k. bytes_eq k.name h.name) l.first)) (take l.head-index l.more));
  few : l.count ≤ l.head-index;
}
