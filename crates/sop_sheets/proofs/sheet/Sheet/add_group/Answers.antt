use Rattle.std.proofs.Common.{refl}
use Rattle.sop_columns.proofs.NameLemmas.{grows_none}
use Rattle.sop_sheets.proofs.CallLemmas.{ok_three, on_err, stays_still, group_becomes}
use Rattle.sop_sheets.proofs.sheet.Sheet.add_group.Goals as goal

pub returns-clause-ok : goal.returns-clause-ok
returns-clause-ok c =
    let e = c.add_group_in.ensures in
    let r = c.add_group_in.result in
    ok_three r (λ set rows step. group_becomes c.args.shelf.now c.args.shelf.now c.args.names.now c.args.names.now c.args.self.now c.add_group_in.new.self c.args.class c.requires.sheet c.requires.held.covered e.rest step c.args.name c.requires.class c.requires.fresh c.requires.few set rows)
    e.set (e.rows c.args.shelf.now c.args.names.now) (e.step c.args.shelf.now c.args.names.now (c.requires.sheet.tables c.args.class))

pub returns-clause-err : goal.returns-clause-err
returns-clause-err c =
    let e = c.add_group_in.ensures in
    on_err c.add_group_in.result (λ same. stays_still c.args.shelf.now c.args.shelf.now c.args.names.now c.args.names.now c.args.self.now c.add_group_in.new.self (grows_none c.args.names.now) refl same) e.err
