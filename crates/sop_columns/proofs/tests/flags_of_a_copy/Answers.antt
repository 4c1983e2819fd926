use Rattle.std.proofs.Common.{List, ap, length, arith}
use Rattle.std.specs.Prelude.{Option}
use Rattle.sop_pages.specs.Pages.{Store, count}
use Rattle.sop_pages.specs.Moves.{times}
use Rattle.sop_cells.specs.declared.place.Place.{Place}
use Rattle.sop_columns.specs.Bits.{own_bits}
use Rattle.sop_columns.proofs.BitLemmas.{bits_few}
use Rattle.sop_columns.proofs.tests.flags_of_a_copy.Goals as goal

pub hold-requires-clause-room : goal.hold-requires-clause-room
hold-requires-clause-room g c = λ id.
    let moved = c.set.ensures.shifts.moves.counts id in
    let none = ap (λ (s : Store). count s id) c.new-shelf.ensures.own in
    let empty = ap (λ (cs : List (Option Place)). times id (own_bits cs)) c.empty-flags.ensures in
    let short = ap (λ (cs : List (Option Place)). length cs) c.empty-flags.ensures in
    let same = ap (λ (cs : List (Option Place)). times id (own_bits cs)) c.in_ok-copy.ensures in
    let few = c.set.ensures.few 1 (omega arith) (omega arith) in
    let held = bits_few id c.set.new.self in
    omega arith
