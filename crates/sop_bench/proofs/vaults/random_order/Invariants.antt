use Rattle.std.proofs.Common.{◌≡◌, length}
use Rattle.std.specs.Prelude.{IsPermutation}
use Rattle.std.specs.List.{range_with_len}
use Rattle.sop_bench.proofs.vaults.random_order.Given as goal

abbrev pub invariant-loop-place : goal.invariant-loop-place
invariant-loop-place l = record { order : IsPermutation (range_with_len 0 l.count) l.order.items; many : length l.order.items ≡ l.count }
