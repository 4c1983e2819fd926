use Rattle.std.proofs.Common.{◌≡◌, false, take}
use Rattle.std.specs.List.{list_any}
use Rattle.sop_net.specs.Needs.{file_of, is_file_named}
use Rattle.sop_net.proofs.needs.is_listed.Given as goal

abbrev pub invariant-loop-node : goal.invariant-loop-node
invariant-loop-node l = list_any (λ y. is_file_named (file_of l.net.nodes y) l.name) (take l.node-index l.listed) ≡ false
