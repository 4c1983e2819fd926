use Rattle.std.proofs.Common.{refl}
use Rattle.sop_sheets.proofs.ViewLemmas.{table_in}
use Rattle.sop_sheets.proofs.CallLemmas.{ok_three, on_err, stays_still, attr_becomes}
use Rattle.sop_sheets.proofs.sheet.Sheet.add_attr.Goals as goal

pub add_attr_in-requires-clause-held : goal.add_attr_in-requires-clause-held
add_attr_in-requires-clause-held c = table_in c.args.shelf.now c.args.names.now c.args.self.now c.requires.sheet _ refl c.requires.held c.args.class

pub returns-clause-ok : goal.returns-clause-ok
returns-clause-ok c =
    let e = c.add_attr_in.ensures in
    let r = c.add_attr_in.result in
    ok_three r (λ set rows step. attr_becomes c.args.shelf.now c.add_attr_in.new.shelf c.args.names.now c.add_attr_in.new.names c.args.self.now c.add_attr_in.new.self c.args.class c.requires.sheet c.requires.held.covered e.rest step c.args.head c.requires.fresh c.requires.few set rows)
    e.set e.rows e.step

pub returns-clause-err : goal.returns-clause-err
returns-clause-err c =
    let e = c.add_attr_in.ensures in
    on_err c.add_attr_in.result (λ same. stays_still c.args.shelf.now c.add_attr_in.new.shelf c.args.names.now c.add_attr_in.new.names c.args.self.now c.add_attr_in.new.self e.grows same.0 same.1) e.err
