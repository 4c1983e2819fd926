use Rattle.std.proofs.Common.{◌∙◌, ◌≤◌, ◌+◌, [], refl, length, ap, arith}
use Rattle.std.proofs.lemmas.List.Elements.{All-nil, All-more, at_read}
use Rattle.std.proofs.lemmas.Bool.Decides.{nat_tests}
use Rattle.sop_cells.specs.Shelves.{column}
use Rattle.sop_tables.specs.Tables.{TableLists}
use Rattle.sop_tables.proofs.SpareCells.{column_kept_at, all_cells, cells_missing}
use Rattle.sop_tables.proofs.table.Table.has_room.Goals as goal

pub loop-column-init : goal.loop-column-init
loop-column-init c = All-nil _

pub reaches-requires : goal.reaches-requires
reaches-requires c =
    column_kept_at c.args.shelf.now c.args.names.now c.args.self.now c.requires.table c.requires.held c.deref-column-items.result.now c.loop-column.column-index c.column-item.result
    (c.deref-column-items.ensures.value ∙ ap (λ (t : TableLists). t.columns) c.self.view_is) c.loop-column-test.true c.column-item.is

pub loop-column-preserved : goal.loop-column-preserved
loop-column-preserved c =
    let total = c.count.result + c.args.more in let cs = c.deref-column-items.result.now in
    All-more (λ places. total ≤ length (column c.args.shelf.now places)) cs c.loop-column.column-index [] c.loop-column-test.true c.loop-column.invariant
    (at_read cs (λ places. total ≤ length (column c.args.shelf.now places)) c.loop-column.column-index c.column-item.result c.loop-column-test.true c.column-item.is (let a = c.if-not-reaches.ensures in grind (arith, nat_tests, a)) [])

pub returns : goal.returns
returns c = (
  λ _. all_cells c.args.shelf.now c.args.self.now c.deref-column-items.result.now (c.deref-column-items.ensures.value ∙ ap (λ (t : TableLists). t.columns) c.self.view_is) (c.count.result + c.args.more) _
      (let e = c.count.ensures in omega arith) c.loop-column.column-index c.loop-column-test.false c.loop-column.invariant,
  λ _. refl,
)

pub returns-then-not-reaches : goal.returns-then-not-reaches
returns-then-not-reaches c = (
  λ h. absurd cc,
  λ has. absurd (cells_missing c.args.shelf.now c.args.self.now c.deref-column-items.result.now (c.deref-column-items.ensures.value ∙ ap (λ (t : TableLists). t.columns) c.self.view_is) (c.count.result + c.args.more) _
      (let e = c.count.ensures in omega arith) c.loop-column.column-index c.column-item.result c.loop-column-test.true c.column-item.is (let a = c.if-not-reaches.ensures in grind (arith, nat_tests, a)) has),
)
