use Rattle.std.proofs.Common.{sym}
use Rattle.sop_model.specs.declared.geo.Geo.{Geo}
use Rattle.sop_model.specs.Rows.{value_set, HasHead, HasElement, IsOfHead}
use Rattle.sop_vault.proofs.VaultLemmas.{here_held, known, call_counted, stays_counted, changed_clause, kept_clause, err_by}
use Rattle.sop_vault.proofs.ShareLemmas.{spare_step, falls_step}
use Rattle.sop_vault.proofs.vault.Vault.set.Goals as goal

pub set_value-set-requires-clause-held : goal.set_value-set-requires-clause-held
set_value-set-requires-clause-held c = here_held c.self.inside.shelf c.self.inside.names c.self.inside.sheets.slots c.self.invariant c.key.inside.key c.in-Some.sheet.now (sym c.in-Some.ensures.value)

pub set_value-set-requires-clause-kind : goal.set_value-set-requires-clause-kind
set_value-set-requires-clause-kind c =
    (known c.self.inside.shelf c.self.inside.names c.self.inside.sheets.slots c.self.invariant c.key.inside.key c.in-Some.sheet.now (sym c.in-Some.ensures.value) c.args.self.now c.self.view_is c.args.key c.key.view_is
    (λ (g : Geo). HasHead g c.args.class c.args.head × HasElement g c.args.class c.args.element × IsOfHead g c.args.class c.args.head c.args.value.now) c.requires.there).2

pub invariant_of-self : goal.invariant_of-self
invariant_of-self c =
    stays_counted c.self.inside.shelf c.self.inside.names c.self.inside.sheets.slots c.self.invariant c.key.inside.key c.in-Some.sheet.now (sym c.in-Some.ensures.value)
    c.set_value-set.new.shelf c.set_value-set.new.names c.set_value-set.new.self c.each_is_counted.ensures c.in_err-set.ensures.err

pub returns-in_err-set-clause-err : goal.returns-in_err-set-clause-err
returns-in_err-set-clause-err c =
    err_by c.from_residual.result (kept_clause c.self.inside.shelf c.self.inside.names c.self.inside.sheets.slots c.self.invariant c.key.inside.key c.in-Some.sheet.now (sym c.in-Some.ensures.value)
    c.set_value-set.new.shelf c.set_value-set.new.names c.set_value-set.new.self c.each_is_counted.ensures c.in_err-set.ensures.err c.args.self.now c.self.view_is)

pub invariant_of-self-2 : goal.invariant_of-self-2
invariant_of-self-2 c =
    call_counted c.self.inside.shelf c.self.inside.names c.self.inside.sheets.slots c.self.invariant c.key.inside.key c.in-Some.sheet.now (sym c.in-Some.ensures.value)
    c.set_value-set.new.shelf c.set_value-set.new.names c.set_value-set.new.self c.each_is_counted.ensures c.in_ok-set.ensures.ok.step

pub returns-clause-ok : goal.returns-clause-ok
returns-clause-ok c =
    changed_clause c.self.inside.shelf c.self.inside.names c.self.inside.sheets.slots c.self.invariant c.key.inside.key c.in-Some.sheet.now (sym c.in-Some.ensures.value)
    c.set_value-set.new.shelf c.set_value-set.new.names c.set_value-set.new.self c.each_is_counted.ensures
    (λ (g : Geo). value_set g c.args.class c.args.head c.args.element c.args.value.now) c.in_ok-set.ensures.ok c.args.self.now c.self.view_is c.args.key c.key.view_is

pub returns-in_err-set-clause-spare : goal.returns-in_err-set-clause-spare
returns-in_err-set-clause-spare c = spare_step c.self.inside.shelf c.set_value-set.new.shelf c.self.inside.names c.set_value-set.new.names c.self.inside.sheets.slots c.key.inside.key c.in-Some.sheet.now c.set_value-set.new.self c.self.invariant (sym c.in-Some.ensures.value) c.args.class c.args.head c.in_err-set.ensures.rest c.in_err-set.ensures.sparing c.args.self.now c.self.view_is c.args.key c.key.view_is

pub returns-in_err-set-clause-falls : goal.returns-in_err-set-clause-falls
returns-in_err-set-clause-falls c = falls_step c.self.inside.shelf c.set_value-set.new.shelf c.self.inside.names c.set_value-set.new.names c.self.inside.sheets.slots c.key.inside.key c.in-Some.sheet.now c.set_value-set.new.self c.self.invariant (sym c.in-Some.ensures.value) c.args.class c.args.head c.in_err-set.ensures.rest c.in_err-set.ensures.sparing c.args.self.now c.self.view_is c.args.key c.key.view_is

pub returns-clause-spare : goal.returns-clause-spare
returns-clause-spare c = spare_step c.self.inside.shelf c.set_value-set.new.shelf c.self.inside.names c.set_value-set.new.names c.self.inside.sheets.slots c.key.inside.key c.in-Some.sheet.now c.set_value-set.new.self c.self.invariant (sym c.in-Some.ensures.value) c.args.class c.args.head c.in_ok-set.ensures.rest c.in_ok-set.ensures.sparing c.args.self.now c.self.view_is c.args.key c.key.view_is

pub returns-clause-falls : goal.returns-clause-falls
returns-clause-falls c = falls_step c.self.inside.shelf c.set_value-set.new.shelf c.self.inside.names c.set_value-set.new.names c.self.inside.sheets.slots c.key.inside.key c.in-Some.sheet.now c.set_value-set.new.self c.self.invariant (sym c.in-Some.ensures.value) c.args.class c.args.head c.in_ok-set.ensures.rest c.in_ok-set.ensures.sparing c.args.self.now c.self.view_is c.args.key c.key.view_is
