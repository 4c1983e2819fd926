use Rattle.std.proofs.Common.{[], false, ℕ, ◌*◌, ◌≤◌, length}
use Rattle.std.specs.Prelude.{slice_index_or}
use Rattle.sop_cells.specs.Shelves.{Shifts}
use Rattle.sop_columns.specs.Bits.{flag, placed, AreBits, AreJoined}
use Rattle.sop_columns.proofs.bit_column.BitColumn.pick_into.Given as goal

abbrev pub invariant-loop-k : goal.invariant-loop-k
invariant-loop-k l = record {
  flags : AreJoined (flag l.shelf l.made) (λ _. false) 0 (λ k. flag l.initial.shelf l.self (slice_index_or l.numbers k 0)) l.k;
  few : (n : ℕ) → length l.numbers ≤ 131072 * n → length l.made ≤ n;
  bits : AreBits l.shelf l.made;
  shifts : Shifts l.initial.shelf l.shelf [] (placed l.made);
}
