use Rattle.std.proofs.Common.{sym}
use Rattle.sop_model.specs.declared.geo.Geo.{Geo}
use Rattle.sop_model.specs.Rows.{member_set}
use Rattle.sop_vault.proofs.VaultLemmas.{here_held, call_counted, stays_counted, changed_clause, kept_clause, err_by}
use Rattle.sop_vault.proofs.vault.Vault.set_member.Goals as goal

pub set_member-set-requires-clause-held : goal.set_member-set-requires-clause-held
set_member-set-requires-clause-held c = here_held c.self.inside.shelf c.self.inside.names c.self.inside.sheets.slots c.self.invariant c.key.inside.key c.in-Some.sheet.now (sym c.in-Some.ensures.value)

pub invariant_of-self : goal.invariant_of-self
invariant_of-self c =
    stays_counted c.self.inside.shelf c.self.inside.names c.self.inside.sheets.slots c.self.invariant c.key.inside.key c.in-Some.sheet.now (sym c.in-Some.ensures.value)
    c.set_member-set.new.shelf c.self.inside.names c.set_member-set.new.self c.each_is_counted.ensures c.in_err-set.ensures.err

pub returns-in_err-set-clause-err : goal.returns-in_err-set-clause-err
returns-in_err-set-clause-err c =
    err_by c.from_residual.result (kept_clause c.self.inside.shelf c.self.inside.names c.self.inside.sheets.slots c.self.invariant c.key.inside.key c.in-Some.sheet.now (sym c.in-Some.ensures.value)
    c.set_member-set.new.shelf c.self.inside.names c.set_member-set.new.self c.each_is_counted.ensures c.in_err-set.ensures.err c.args.self.now c.self.view_is)

pub invariant_of-self-2 : goal.invariant_of-self-2
invariant_of-self-2 c =
    call_counted c.self.inside.shelf c.self.inside.names c.self.inside.sheets.slots c.self.invariant c.key.inside.key c.in-Some.sheet.now (sym c.in-Some.ensures.value)
    c.set_member-set.new.shelf c.self.inside.names c.set_member-set.new.self c.each_is_counted.ensures c.in_ok-set.ensures.ok.step

pub returns-clause-ok : goal.returns-clause-ok
returns-clause-ok c =
    changed_clause c.self.inside.shelf c.self.inside.names c.self.inside.sheets.slots c.self.invariant c.key.inside.key c.in-Some.sheet.now (sym c.in-Some.ensures.value)
    c.set_member-set.new.shelf c.self.inside.names c.set_member-set.new.self c.each_is_counted.ensures
    (λ (g : Geo). member_set g c.args.class c.args.group c.args.element c.args.on) c.in_ok-set.ensures.ok c.args.self.now c.self.view_is c.args.key c.key.view_is
