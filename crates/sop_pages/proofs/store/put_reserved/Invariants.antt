use Rattle.std.proofs.Common.{◌≡◌, ◌≤◌, ◌+◌, ℕ, [], length, map, vec_len, vec_capacity}
use Rattle.slab.specs.Slab.{slab_len}
use Rattle.sop_pages.specs.Pages.{live_pages, count, cells}
use Rattle.sop_pages.specs.Slots.{store_of, AllCounted}
use Rattle.sop_pages.specs.Moves.{times, Moves}
use Rattle.sop_pages.proofs.store.put_reserved.Given as goal

abbrev pub invariant-loop-page : goal.invariant-loop-page
invariant-loop-page l = record {
  counted : AllCounted l.slab;
  room : slab_len l.slab + vec_len l.fn.pages ≤ l.slab.capacity + length l.yielded;
  ids_room : vec_len l.ids + vec_len l.fn.pages ≤ vec_capacity l.ids + length l.yielded;
  moves : Moves (store_of l.initial.slab) (store_of l.slab) [] l.ids.items;
  fresh : (id : ℕ) → 1 ≤ times id l.ids.items → count (store_of l.initial.slab) id ≡ 0;
  cells : map (cells (store_of l.slab)) l.ids.items ≡ l.yielded;
  live : live_pages (store_of l.slab) ≡ live_pages (store_of l.initial.slab) + length l.yielded;
}
