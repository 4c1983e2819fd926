use Rattle.std.proofs.Common.{◌≡◌, ◌+◌, ◌++◌, replicate, sym, subst}
use Rattle.sop_model.specs.Rows.{default_row}
use Rattle.sop_tables.specs.Tables.{TableLists, rows, IsTable}
use Rattle.sop_tables.proofs.SpareCells.{occupied_table, occupied_rows}
use Rattle.sop_tables.proofs.table.Table.occupy.Goals as goal

pub returns-clause-table : goal.returns-clause-table
returns-clause-table c =
    let P : TableLists → Type 0 = λ t. IsTable c.args.shelf.now c.args.names.now (record { set = t.set; columns = t.columns; members = t.members; count = t.count + c.args.more }) in
    subst P (sym c.self.view_is) (occupied_table c.args.shelf.now c.args.names.now c.args.self.now c.requires.table c.args.more c.requires.cells c.requires.most)

pub returns-clause-rows : goal.returns-clause-rows
returns-clause-rows c =
    let s = c.args.shelf.now in let n = c.args.names.now in
    let P : TableLists → Type 0 = λ t. rows s n (record { set = t.set; columns = t.columns; members = t.members; count = t.count + c.args.more }) ≡ rows s n c.args.self.now ++ replicate c.args.more (default_row c.args.self.now.set) in
    subst P (sym c.self.view_is) (occupied_rows s n c.args.self.now c.requires.table c.args.more c.requires.cells c.requires.most)
