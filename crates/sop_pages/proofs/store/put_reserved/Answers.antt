use Rattle.std.proofs.Common.{◌∷◌, [], arith, length-append}
use Rattle.sop_pages.proofs.StoreLemmas.{live_len}
use Rattle.sop_pages.proofs.MoveLemmas.{fill_counted, fill_moves, fill_fresh, fill_cells}
use Rattle.sop_pages.proofs.store.put_reserved.Goals as goal

pub loop-page-preserved : goal.loop-page-preserved
loop-page-preserved c =
    let more = length-append c.loop-page.yielded (c.in-Some.page ∷ []) in
    let i = c.loop-page.invariant in let e = c.insert_reserved-key.ensures in let p = c.push_reserved.ensures in record {
      counted = fill_counted c.args.slab.now c.loop-page.slab c.insert_reserved-key.new.self c.loop-page.ids.items c.loop-page.yielded _ c.in-Some.page e.was_vacant e.updates i.moves c.cells-cells.ensures.size i.counted;
      room = let a = i.room in let b = e.len in let d = e.capacity in omega arith;
      ids_room = let a = i.ids_room in let b = p.len in let d = p.capacity in omega arith;
      moves = fill_moves c.args.slab.now c.loop-page.slab c.insert_reserved-key.new.self c.loop-page.ids.items c.loop-page.yielded _ c.in-Some.page e.was_vacant e.updates i.moves _ p.items;
      fresh = fill_fresh c.args.slab.now c.loop-page.slab c.insert_reserved-key.new.self c.loop-page.ids.items c.loop-page.yielded _ c.in-Some.page e.was_vacant e.updates i.moves _ p.items i.fresh;
      cells = fill_cells c.args.slab.now c.loop-page.slab c.insert_reserved-key.new.self c.loop-page.ids.items c.loop-page.yielded _ c.in-Some.page e.was_vacant e.updates i.moves _ p.items i.cells;
      live = let a = live_len c.insert_reserved-key.new.self in let b = live_len c.loop-page.slab in let d = e.len in let f = i.live in omega arith;
    }
