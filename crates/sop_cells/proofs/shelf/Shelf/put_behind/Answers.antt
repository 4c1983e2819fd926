use Rattle.std.proofs.Common.{◌∙◌, refl, subst}
use Rattle.std.specs.Prelude.{◌++◌, map}
use Rattle.sop_cells.specs.declared.place.Place.TheVariants.{Own}
use Rattle.sop_cells.specs.Shelves.{ShelfPages, IsPutBehind, base_store}
use Rattle.sop_cells.proofs.PlaceLemmas.{put_own}
use Rattle.sop_cells.proofs.shelf.Shelf.put_behind.Goals as goal

pub returns-clause-put : goal.returns-clause-put
returns-clause-put c =
    let base = base_store c.self.inside.base in
    let old : ShelfPages = record { own = c.self.inside.own; base = base } in
    let new : ShelfPages = record { own = c.put_all.new.self; base = base } in
    let P : ShelfPages → Type 0 = λ s. IsPutBehind s new c.args.places.items c.args.pages c.push_own.new.places.items in
    subst P c.self.view_is (put_own old new c.args.places.items c.push_own.new.places.items c.args.pages _ (c.push_own.ensures ∙ (λ i. c.reserve.ensures.items i ++ map Own (c.as_slice.ensures i))) refl c.in-Ok.ensures.moves c.in-Ok.ensures.fresh c.in-Ok.ensures.cells)
