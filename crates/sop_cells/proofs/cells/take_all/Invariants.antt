use Rattle.std.proofs.Common.{◌≡◌, ◌≤◌, ◌+◌, ◌++◌, [], ℕ, take, length, vec_len, vec_capacity}
use Rattle.std.specs.Prelude.{None, slice_index_or}
use Rattle.sop_pages.specs.Pages.{live_pages}
use Rattle.sop_cells.specs.Shelves.{Shifts, blocks}
use Rattle.sop_cells.proofs.cells.take_all.Given as goal

abbrev pub invariant-loop-i : goal.invariant-loop-i
invariant-loop-i l = record {
  room : vec_len l.pages + length l.places ≤ vec_capacity l.pages + l.i;
  long : length l.copies.items ≡ length l.fn.copies.items;
  copies : (k : ℕ) → l.i ≤ k → slice_index_or l.copies.items k None ≡ slice_index_or l.fn.copies.items k None;
  pages : l.pages.items ≡ l.initial.pages.items ++ blocks l.initial.shelf (take l.i l.places);
  shifts : Shifts l.initial.shelf l.shelf (take l.i l.places) [];
  fewer : live_pages l.shelf.own ≤ live_pages l.initial.shelf.own;
}
