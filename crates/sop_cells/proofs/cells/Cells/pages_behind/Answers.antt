use Rattle.std.proofs.Common.{◌∙◌, ◌/◌, sym, ap, arith, List, length}
use Rattle.std.proofs.lemmas.List.{length-map}
use Rattle.sop_pages.specs.declared.cell.Cell.{Cell}
use Rattle.sop_cells.specs.Shelves.{cells_at, blocks}
use Rattle.sop_cells.proofs.CutLemmas.{whole_full, whole_all}
use Rattle.sop_cells.proofs.PartLemmas.{part_within}
use Rattle.sop_cells.proofs.cells.Cells.pages_behind.Goals as goal

pub returns-then-full-place_count : goal.returns-then-full-place_count
returns-then-full-place_count c = whole_full (blocks c.args.shelf.now c.args.self.now) c.args.before c.args.len (c.args.len / 1024) c.requires.kept.paged c.if-before-gt0.false (omega arith) c.requires.within (omega arith)

pub page-page-requires-clause-within : goal.page-page-requires-clause-within
page-page-requires-clause-within c =
    let w = c.requires.within in
    let h = part_within c.args.shelf.now c.args.self.now (c.args.len / 1024) c.requires.kept (omega arith) in omega arith

pub returns-then-page-len : goal.returns-then-page-len
returns-then-page-len c =
    let w = c.requires.within in let m = length-map c.args.self.now (cells_at c.args.shelf.now) in
    let h = part_within c.args.shelf.now c.args.self.now (c.args.len / 1024) c.requires.kept (omega arith) in
    let q = ap (λ (cs : List Cell). length cs) c.page-page.ensures in
    whole_all (blocks c.args.shelf.now c.args.self.now) c.args.before c.args.len (c.args.len / 1024) c.requires.kept.paged c.if-before-gt0.false (omega arith) (sym q ∙ c.if-page-len.true) (omega arith) (omega arith)

pub returns : goal.returns
returns c = whole_full (blocks c.args.shelf.now c.args.self.now) c.args.before c.args.len (c.args.len / 1024) c.requires.kept.paged c.if-before-gt0.false (omega arith) c.requires.within (omega arith)
