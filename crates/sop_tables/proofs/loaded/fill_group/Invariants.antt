use Rattle.std.proofs.Common.{◌≤◌, [], false, length}
use Rattle.sop_cells.specs.Shelves.{Shifts}
use Rattle.sop_columns.specs.Bits.{flag, placed, AreBits, AreJoined}
use Rattle.sop_tables.specs.Loaded.{is_member}
use Rattle.sop_tables.proofs.loaded.fill_group.Given as goal

abbrev pub invariant-loop-element : goal.invariant-loop-element
invariant-loop-element g l = record {
  flags : AreJoined (flag l.shelf l.made) (λ _. false) 0 (is_member (g.V.GeoView.geo l.view) l.class l.group) l.element;
  few : length l.made ≤ 31;
  bits : AreBits l.shelf l.made;
  shifts : Shifts l.initial.shelf l.shelf [] (placed l.made);
}
