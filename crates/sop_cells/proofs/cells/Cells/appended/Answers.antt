use Rattle.std.proofs.Common.{◌≡◌, ◌∙◌, refl, ◌++◌, ◌/◌, ◌%◌, List, length, take, drop, length-append, ap, sym, subst, arith}
use Rattle.std.proofs.lemmas.List.{length-take-le, length-map}
use Rattle.sop_cells.specs.declared.place.Place.{Place}
use Rattle.sop_cells.specs.Shelves.{cells_at, joined, column}
use Rattle.sop_cells.specs.Layouts.{CanHold, IsLaid}
use Rattle.sop_cells.proofs.PartLemmas.{part_count, both_can, part_within}
use Rattle.sop_cells.proofs.JoinLemmas.{shared_most, joined_column, joined_kept}
use Rattle.sop_cells.proofs.cells.Cells.appended.Goals as goal
use Rattle.sop_cells.proofs.cells.Cells.appended.Goals.{In_ok-cells, In_ok-extend_from_slice}

pub push_rest-requires-clause-within : goal.push_rest-requires-clause-within
push_rest-requires-clause-within c = let w = c.requires.within in part_within c.args.shelf.now c.args.self.now (c.args.len / 1024) c.requires.kept (omega arith)

pub first_places-requires : goal.first_places-requires
first_places-requires c = let w = c.requires.within in part_within c.args.shelf.now c.args.self.now (c.args.len / 1024) c.requires.kept (omega arith)

places_are : (c : In_ok-extend_from_slice) → c.extend_from_slice.new.self.items ≡ take (c.args.len / 1024) c.args.self.now ++ take c.pages_behind-more_first.result c.args.more.now
places_are c = c.in_ok-extend_from_slice.ensures.items ∙ (λ i. c.in_ok-places.ensures i ++ take c.pages_behind-more_first.result ((c.deref.ensures.value ∙ c.more.view_is) i))

pub laid-requires : goal.laid-requires
laid-requires c = subst (CanHold c.args.shelf.now) (sym (places_are (goal.at.laid-requires c).In_ok-extend_from_slice)) (both_can c.args.shelf.now c.args.self.now c.args.more.now (c.args.len / 1024) c.pages_behind-more_first.result c.requires.kept c.requires.more_kept c.requires.room)

laid : (c : In_ok-cells) (same : c.extend_from_slice.new.self.items ≡ take (c.args.len / 1024) c.args.self.now ++ take c.pages_behind-more_first.result c.args.more.now) → IsLaid c.args.shelf.now c.laid.new.shelf (take (c.args.len / 1024) c.args.self.now ++ take c.pages_behind-more_first.result c.args.more.now) c.in_ok-pages.pages c.in_ok-cells.cells
laid c same = subst (λ (ps : List Place). IsLaid c.args.shelf.now c.laid.new.shelf ps c.in_ok-pages.pages c.in_ok-cells.cells) same c.in_ok-cells.ensures.laid

pages_are : (c : In_ok-cells) → joined c.in_ok-pages.pages ≡ take (c.args.len % 1024) (column c.args.shelf.now (drop (c.args.len / 1024) c.args.self.now)) ++ take c.saturating_sub-left.result (column c.args.shelf.now (drop c.pages_behind-more_first.result c.args.more.now))
pages_are c =
    c.in_ok-pages.ensures.cells ∙ c.in_ok-push_rest-2.ensures
    ∙ ap (λ r. r ++ take c.saturating_sub-left.result (column c.args.shelf.now (drop c.pages_behind-more_first.result c.args.more.now)))
    (c.in_ok-push_rest.ensures ∙ ap (λ r. r ++ take (c.args.len % 1024) (column c.args.shelf.now (drop (c.args.len / 1024) c.args.self.now))) c.in_ok-packer.ensures)

pub returns-clause-cells : goal.returns-clause-cells
returns-clause-cells c =
    let w = (goal.at.returns-clause-cells c).In_ok-cells in
    joined_column c.args.shelf.now c.laid.new.shelf c.args.self.now c.args.more.now c.in_ok-cells.cells c.args.len c.args.more_len c.pages_behind-more_first.result c.saturating_sub-left.result c.in_ok-pages.pages c.requires.kept c.requires.more_kept c.requires.within c.pages_behind-more_first.ensures c.saturating_sub-left.ensures
    (laid w (places_are (goal.at.returns-clause-cells c).In_ok-extend_from_slice)) c.in_ok-pages.ensures.paged (pages_are w)

pub returns-clause-kept : goal.returns-clause-kept
returns-clause-kept c =
    let w = (goal.at.returns-clause-kept c).In_ok-cells in
    joined_kept c.args.shelf.now c.laid.new.shelf c.args.self.now c.args.more.now c.in_ok-cells.cells c.args.len c.args.more_len c.pages_behind-more_first.result c.saturating_sub-left.result c.in_ok-pages.pages c.requires.kept c.requires.more_kept c.requires.within c.pages_behind-more_first.ensures c.saturating_sub-left.ensures
    (laid w (places_are (goal.at.returns-clause-kept c).In_ok-extend_from_slice)) c.in_ok-pages.ensures.paged (pages_are w)

pub returns-clause-pages : goal.returns-clause-pages
returns-clause-pages c =
    let e = places_are (goal.at.returns-clause-pages c).In_ok-extend_from_slice in
    let l = ap (λ (ps : List Place). length ps) e in let a = length-append (take (c.args.len / 1024) c.args.self.now) (take c.pages_behind-more_first.result c.args.more.now) in
    let b = part_count c.args.shelf.now c.args.self.now _ (c.args.len / 1024) c.requires.kept (let w = c.requires.within in omega arith) refl in
    let m = length-map c.args.more.now (cells_at c.args.shelf.now) in
    let d = length-take-le c.pages_behind-more_first.result c.args.more.now (let w = c.pages_behind-more_first.ensures.within in omega arith) in
    let p = c.in_ok-cells.ensures.pages in let q = shared_most c.args.len c.args.more_len c.pages_behind-more_first.result c.pages_behind-more_first.ensures.most in omega arith
