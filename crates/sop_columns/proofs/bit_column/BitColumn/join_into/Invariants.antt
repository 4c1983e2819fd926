use Rattle.std.proofs.Common.{ℕ, ◌+◌, ◌*◌, ◌≤◌, length}
use Rattle.sop_cells.specs.Shelves.{Shifts}
use Rattle.sop_columns.specs.Bits.{flag, placed, AreBits, AreJoined}
use Rattle.sop_columns.proofs.bit_column.BitColumn.join_into.Given as goal

abbrev pub invariant-loop-k : goal.invariant-loop-k
invariant-loop-k l = record {
  flags : AreJoined (flag l.shelf l.made) (flag l.initial.shelf l.initial.made) l.len (flag l.initial.shelf l.self) l.k;
  few : (n : ℕ) → length l.initial.made ≤ n → l.len + l.more_len ≤ 131072 * n → length l.made ≤ n;
  bits : AreBits l.shelf l.made;
  shifts : Shifts l.initial.shelf l.shelf (placed l.initial.made) (placed l.made);
}
