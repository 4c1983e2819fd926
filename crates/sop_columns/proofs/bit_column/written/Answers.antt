use Rattle.std.proofs.Common.{◌∙◌, ◌-◌, ◌/◌, ◌<◌, ◌++◌, List, ap, arith, length}
use Rattle.std.proofs.lemmas.List.{get_or_read}
use Rattle.sop_pages.specs.declared.cell.Cell.{Cell}
use Rattle.sop_pages.specs.declared.cell.Cell.TheVariants as cell
use Rattle.sop_cells.specs.Shelves.{cells_at}
use Rattle.sop_columns.specs.Bits.{word_of}
use Rattle.sop_columns.proofs.BitLemmas.{flag_other, long_other}
use Rattle.sop_columns.proofs.bit_column.written.Goals as goal

pub returns-in_ok-set-clause-others : goal.returns-in_ok-set-clause-others
returns-in_ok-set-clause-others c =
    let old : List Cell = cells_at c.args.shelf.now c.args.place.now in
    let e = ap (λ (cells : List Cell). length cells) c.cells.ensures.value in
    let l = c.if-at-len.true in
    let within : c.args.j / 128 < length old = omega arith in
    flag_other old _ c.args.j c.switched-word.result c.in_ok-set.ensures.cells within c.word-old.result
    (c.word-old.ensures ∙ ap word_of (get_or_read old (c.args.j / 128) c.cell.result within c.cell.ensures (cell.Name 0))) c.switched-word.ensures.others

pub returns-in_ok-lengthen-clause-others : goal.returns-in_ok-lengthen-clause-others
returns-in_ok-lengthen-clause-others c =
    let old : List Cell = cells_at c.args.shelf.now c.args.place.now in
    let e = ap (λ (cells : List Cell). length cells) c.cells.ensures.value in
    let l = c.if-at-len.false in
    long_other old _ c.args.j c.switched-word-else-at-len.result (c.args.j / 128 - length c.cells.result.now)
    (c.in_ok-lengthen.ensures.cells ∙ ap (λ (more : List Cell). old ++ more) (c.as_slice.ensures.value ∙ c.in_ok-more.ensures)) (omega arith) c.switched-word-else-at-len.ensures.others
