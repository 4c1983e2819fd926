use Rattle.std.proofs.Common.{◌<◌, ℕ, sym, subst, refl}
use Rattle.sop_columns.proofs.NameLemmas.{grows_none}
use Rattle.sop_sheets.proofs.ViewLemmas.{count_in, table_in}
use Rattle.sop_sheets.proofs.CallLemmas.{on_ok, on_err, stays_still, member_becomes}
use Rattle.sop_sheets.proofs.sheet.Sheet.set_member.Goals as goal

pub set_member_in-requires-clause-held : goal.set_member_in-requires-clause-held
set_member_in-requires-clause-held c = table_in c.args.shelf.now c.args.names.now c.args.self.now c.requires.sheet _ refl c.requires.held c.args.class

pub set_member_in-requires-clause-element : goal.set_member_in-requires-clause-element
set_member_in-requires-clause-element c = subst (λ (k : ℕ). c.args.element < k) (sym (count_in c.args.shelf.now c.args.names.now c.args.self.now c.requires.sheet _ refl c.args.class)) c.requires.element

pub returns-clause-ok : goal.returns-clause-ok
returns-clause-ok c =
    let e = c.set_member_in.ensures in
    on_ok c.set_member_in.result (λ row. member_becomes c.args.shelf.now c.set_member_in.new.shelf c.args.names.now c.args.names.now c.args.self.now c.set_member_in.new.self c.args.class c.requires.sheet c.requires.held.covered e.rest e.step c.args.group c.args.element c.args.on e.set row) e.rows

pub returns-clause-err : goal.returns-clause-err
returns-clause-err c =
    let e = c.set_member_in.ensures in
    on_err c.set_member_in.result (λ same. stays_still c.args.shelf.now c.set_member_in.new.shelf c.args.names.now c.args.names.now c.args.self.now c.set_member_in.new.self (grows_none c.args.names.now) same.0 same.1) e.err
