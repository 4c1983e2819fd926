use Rattle.std.proofs.Common.{◌≡◌, [], List, length, take, subst, arith}
use Rattle.sop_cells.specs.declared.place.Place.{Place}
use Rattle.sop_cells.specs.Shelves.{Shifts}
use Rattle.sop_cells.proofs.LaidLemmas.{laid_is}
use Rattle.sop_cells.proofs.cells.laid.Goals as goal

pub returns-clause-laid : goal.returns-clause-laid
returns-clause-laid c =
    let long : c.len-held.result ≡ length c.args.first.items = let l = c.args.first.ok.0 in let m = c.len-held.ensures in omega arith in
    laid_is c.args.shelf.now c.put_behind.new.self c.args.first.items c.in-Ok.places.items c.args.pages c.requires c.in-Ok.ensures.put c.hold_all.new.shelf
    (subst (λ (ps : List Place). Shifts c.put_behind.new.self c.hold_all.new.shelf [] ps) (λ i. take (long i) (c.deref.ensures.value i)) c.hold_all.ensures.shifts)
