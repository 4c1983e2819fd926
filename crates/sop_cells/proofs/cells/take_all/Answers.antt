use Rattle.std.proofs.Common.{◌≡◌, ◌∙◌, List, length, get_or, ap, sym, subst, arith, length-set}
use Rattle.std.specs.Prelude.{Option, None}
use Rattle.std.proofs.lemmas.List.{get_or-set_other}
use Rattle.sop_pages.specs.declared.cell.Cell.{Cell}
use Rattle.sop_cells.specs.Layouts.{IsCopy}
use Rattle.sop_cells.proofs.HeldLemmas.{release_live, release_copy, release_cells, release_more}
use Rattle.sop_cells.proofs.PartLemmas.{blocks_next}
use Rattle.sop_cells.proofs.cells.take_all.Goals as goal

pub take_one-page-requires-clause-live : goal.take_one-page-requires-clause-live
take_one-page-requires-clause-live c = release_live c.args.places.now c.loop-i.i _ c.loop-i-test.true c.index-places-i.is c.args.shelf.now c.loop-i.shelf c.requires.covered c.requires.based c.loop-i.invariant.shifts

pub take_one-page-requires-clause-copy : goal.take_one-page-requires-clause-copy
take_one-page-requires-clause-copy c =
    let same : c.copy_at-copy.result ≡ get_or c.args.copies.items c.loop-i.i None = c.copy_at-copy.ensures.taken ∙ c.loop-i.invariant.copies c.loop-i.i (omega arith) in
    subst (λ (o : Option (List Cell)). IsCopy c.loop-i.shelf c.index-places-i.result o) (sym same)
    (release_copy c.args.places.now c.loop-i.i _ c.loop-i-test.true c.index-places-i.is c.args.shelf.now c.loop-i.shelf c.requires.covered c.requires.based _ c.loop-i.invariant.shifts
    (c.requires.copies.each c.loop-i.i _ c.loop-i-test.true c.index-places-i.is))

pub loop-i-preserved : goal.loop-i-preserved
loop-i-preserved c = record {
  room = let a = c.loop-i.invariant.room in let b = c.push_reserved.ensures.len in let d = c.push_reserved.ensures.capacity in omega arith;
  long = ap (λ (os : List (Option (List Cell))). length os) c.copy_at-copy.ensures.rest ∙ length-set c.loop-i.copies.items c.loop-i.i None ∙ c.loop-i.invariant.long;
  copies = λ k h. ap (λ (os : List (Option (List Cell))). get_or os k None) c.copy_at-copy.ensures.rest ∙ get_or-set_other c.loop-i.copies.items c.loop-i.i k None None (λ e. omega arith) ∙ c.loop-i.invariant.copies k (omega arith);
  pages = blocks_next c.args.shelf.now c.args.places.now c.loop-i.i _ _ _ _ _ c.loop-i-test.true c.index-places-i.is
      (c.take_one-page.ensures.cells ∙ release_cells c.args.places.now c.loop-i.i _ c.loop-i-test.true c.index-places-i.is c.args.shelf.now c.loop-i.shelf c.requires.covered c.requires.based c.loop-i.invariant.shifts)
      c.push_reserved.ensures.items c.loop-i.invariant.pages;
  shifts = release_more c.args.places.now c.loop-i.i _ c.loop-i-test.true c.index-places-i.is c.args.shelf.now c.loop-i.shelf c.requires.covered c.requires.based _ c.loop-i.invariant.shifts c.take_one-page.ensures.shifts;
  fewer = let a = c.loop-i.invariant.fewer in let b = c.take_one-page.ensures.fewer in omega arith;
}
