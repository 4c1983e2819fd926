use Rattle.std.proofs.Common.{◌≡◌, ◌∙◌, ◌<◌, List, ℕ, length, map, get_or, ap, sym, arith}
use Rattle.std.specs.Prelude.{Option}
use Rattle.std.proofs.lemmas.List.{length-map, get_or-map}
use Rattle.sop_cells.specs.declared.place.Place.{Place}
use Rattle.sop_columns.specs.Bits.{placed}
use Rattle.sop_tables.proofs.FlatLemmas.{next_held, next_room, next_shifts}
use Rattle.sop_tables.proofs.lots.hold_members.Goals as goal

many : (ms : List (List (Option Place))) (k : ℕ) → k < length ms → k < length (map placed ms)
many ms k l = let e = length-map ms placed in omega arith

at : (ms : List (List (Option Place))) (k : ℕ) (p : List (Option Place)) → k < length ms → p ≡ get_or ms k p → placed p ≡ get_or (map placed ms) k (placed p)
at ms k p l e = ap placed e ∙ sym (get_or-map placed ms k p (placed p) l)

pub hold-requires-clause-bits : goal.hold-requires-clause-bits
hold-requires-clause-bits c =
    let h = next_held (map placed c.args.members.now) c.loop-column.column-index _ (many c.args.members.now c.loop-column.column-index c.loop-column-test.true)
    (at c.args.members.now c.loop-column.column-index c.column-item.result c.loop-column-test.true c.column-item.is) c.args.shelf.now c.loop-column.shelf c.loop-column.invariant.shifts c.requires.held in
    record { covered = h.covered; based = h.based }

pub hold-requires-clause-room : goal.hold-requires-clause-room
hold-requires-clause-room c =
    (next_room (map placed c.args.members.now) c.loop-column.column-index _ (many c.args.members.now c.loop-column.column-index c.loop-column-test.true)
    (at c.args.members.now c.loop-column.column-index c.column-item.result c.loop-column-test.true c.column-item.is) c.args.shelf.now c.loop-column.shelf c.loop-column.invariant.shifts c.requires.room).each

pub loop-column-preserved : goal.loop-column-preserved
loop-column-preserved c = record {
  shifts = next_shifts (map placed c.args.members.now) c.loop-column.column-index _ (many c.args.members.now c.loop-column.column-index c.loop-column-test.true)
      (at c.args.members.now c.loop-column.column-index c.column-item.result c.loop-column-test.true c.column-item.is) c.args.shelf.now c.loop-column.shelf c.loop-column.invariant.shifts c.hold.new.shelf c.hold.ensures.shifts;
  pages = c.hold.ensures.pages ∙ c.loop-column.invariant.pages;
}
