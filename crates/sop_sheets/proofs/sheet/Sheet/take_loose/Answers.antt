use Rattle.std.proofs.Common.{◌∙◌, map, replicate, ap, refl}
use Rattle.std.specs.Prelude.{slice_index_or, pos}
use Rattle.sop_model.specs.declared.geo.Row.{Row}
use Rattle.sop_model.specs.declared.value.Value.TheVariants as value
use Rattle.sop_model.specs.Rows.{rows_held}
use Rattle.sop_tables.specs.Tables.{TableLists, default_at}
use Rattle.sop_tables.specs.Tables.{rows as rows_seen}
use Rattle.sop_sheets.specs.Sheets.{table_of}
use Rattle.sop_sheets.proofs.ViewLemmas.{count_in, set_in, rows_in, table_in}
use Rattle.sop_sheets.proofs.CallLemmas.{ok_four, if_ok, on_err, cleared_becomes}
use Rattle.sop_sheets.proofs.sheet.Sheet.take_loose.Goals as goal

pub take_loose_in-requires-clause-held : goal.take_loose_in-requires-clause-held
take_loose_in-requires-clause-held c = table_in c.args.shelf.now c.args.names.now c.args.self.now c.requires.sheet _ refl c.requires.held c.args.class

pub returns-clause-values : goal.returns-clause-values
returns-clause-values c =
    let e = c.take_loose_in.ensures in
    if_ok c.take_loose_in.result (λ pages same. same ∙ ap (map (λ (row : Row). slice_index_or row.values c.args.head (value.Int (pos 0)))) (rows_in c.args.shelf.now c.args.names.now c.args.self.now c.requires.sheet _ refl c.args.class)) e.values

pub returns-clause-ok : goal.returns-clause-ok
returns-clause-ok c =
    let e = c.take_loose_in.ensures in
    let r = c.take_loose_in.result in
    let count = count_in c.args.shelf.now c.args.names.now c.args.self.now c.requires.sheet _ refl c.args.class in
    let set = set_in c.args.shelf.now c.args.names.now c.args.self.now c.requires.sheet _ refl c.args.class in
    ok_four r (λ rest column rows step. cleared_becomes c.args.shelf.now c.take_loose_in.new.shelf c.args.names.now c.take_loose_in.new.names c.args.self.now c.take_loose_in.new.self c.args.class c.requires.sheet c.requires.held.covered rest step c.args.head c.requires.head (ap (λ (t : TableLists). t.set) column)
    (rows ∙ (λ j. rows_held c.args.head (rows_seen c.args.shelf.now c.args.names.now (table_of c.args.self.now c.args.class)) (replicate (count j) (default_at (set j) c.args.head)))))
    e.rest e.column e.rows e.step

pub returns-clause-err : goal.returns-clause-err
returns-clause-err c =
    let e = c.take_loose_in.ensures in
    on_err c.take_loose_in.result (λ same. record { same = same.0; pages = same.1 }) e.err
