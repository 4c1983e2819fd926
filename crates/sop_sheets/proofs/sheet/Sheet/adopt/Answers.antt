use Rattle.std.proofs.Common.{◌∙◌, ap, sym, refl}
use Rattle.sop_tables.specs.Tables.{TableLists}
use Rattle.sop_columns.proofs.NameLemmas.{grows_none}
use Rattle.sop_sheets.proofs.ViewLemmas.{count_in, table_in}
use Rattle.sop_sheets.proofs.CallLemmas.{ok_four, if_err, stays_still, held_becomes}
use Rattle.sop_sheets.proofs.sheet.Sheet.adopt.Goals as goal

pub adopt_in-requires-clause-held : goal.adopt_in-requires-clause-held
adopt_in-requires-clause-held c = table_in c.args.shelf.now c.args.names.now c.args.self.now c.requires.sheet _ refl c.requires.held c.args.class

pub adopt_in-requires-clause-many : goal.adopt_in-requires-clause-many
adopt_in-requires-clause-many c = c.requires.many ∙ sym (count_in c.args.shelf.now c.args.names.now c.args.self.now c.requires.sheet _ refl c.args.class)

pub returns-clause-ok : goal.returns-clause-ok
returns-clause-ok c =
    let e = c.adopt_in.ensures in
    let r = c.adopt_in.result in
    ok_four r (λ rest column rows step. held_becomes c.args.shelf.now c.adopt_in.new.shelf c.args.names.now c.args.names.now c.args.self.now c.adopt_in.new.self c.args.class c.requires.sheet c.requires.held.covered rest step c.args.head _ c.requires.kinds c.requires.within (ap (λ (t : TableLists). t.set) column) rows)
    e.rest e.column e.rows e.step

pub returns-clause-err : goal.returns-clause-err
returns-clause-err c =
    let e = c.adopt_in.ensures in
    if_err c.adopt_in.result (λ back same. (stays_still c.args.shelf.now c.adopt_in.new.shelf c.args.names.now c.args.names.now c.args.self.now c.adopt_in.new.self (grows_none c.args.names.now) same.0 same.1, same.2)) e.err
