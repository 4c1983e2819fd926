use Rattle.std.proofs.Common.{◌≡◌, ◌++◌, ◌+◌, ◌≤◌, map, take, length, vec_len, vec_capacity}
use Rattle.sop_cells.specs.declared.place.Place.TheVariants.{Own}
use Rattle.sop_cells.proofs.shelf.push_own.Given as goal

abbrev pub invariant-loop-id : goal.invariant-loop-id
invariant-loop-id l = record {
  room : vec_len l.places + length l.ids ≤ vec_capacity l.places + l.id-index;
  items : l.places.items ≡ l.fn.places.items ++ map Own (take l.id-index l.ids);
}
