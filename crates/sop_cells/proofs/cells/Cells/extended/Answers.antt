use Rattle.std.proofs.Common.{◌/◌, length, arith}
use Rattle.sop_cells.specs.Shelves.{column}
use Rattle.sop_cells.proofs.PartLemmas.{places_few, part_within}
use Rattle.sop_cells.proofs.cells.Cells.extended.Goals as goal

pub returns-then-old_len-len-clause-tight : goal.returns-then-old_len-len-clause-tight
returns-then-old_len-len-clause-tight c =
    let a = places_few c.args.shelf.now c.args.self.now c.requires.kept in let b = c.count-old_len.ensures in let d = c.in_ok-cells.ensures.len in omega arith

pub returns-then-old_len-len-clause-pages : goal.returns-then-old_len-len-clause-pages
returns-then-old_len-len-clause-pages c =
    let a = part_within c.args.shelf.now c.args.self.now (length (column c.args.shelf.now c.args.self.now) / 1024) c.requires.kept (omega arith) in
    let d = c.in_ok-cells.ensures.len in let p = c.in_ok-cells.ensures.pages in omega arith
