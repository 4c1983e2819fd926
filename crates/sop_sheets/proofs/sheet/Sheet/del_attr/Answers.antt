use Rattle.std.proofs.Common.{refl}
use Rattle.sop_sheets.proofs.ViewLemmas.{table_in}
use Rattle.sop_sheets.proofs.CallLemmas.{gone_becomes}
use Rattle.sop_sheets.proofs.sheet.Sheet.del_attr.Goals as goal

pub del_attr_in-requires-clause-held : goal.del_attr_in-requires-clause-held
del_attr_in-requires-clause-held c = table_in c.args.shelf.now c.args.names.now c.args.self.now c.requires.sheet _ refl c.requires.held c.args.class

pub returns-clause-gone : goal.returns-clause-gone
returns-clause-gone c =
    let e = c.del_attr_in.ensures in
    gone_becomes c.args.shelf.now c.del_attr_in.new.shelf c.args.names.now c.args.names.now c.args.self.now c.del_attr_in.new.self c.args.class c.requires.sheet c.requires.held.covered e.rest e.step c.args.head c.requires.apart e.set e.rows
