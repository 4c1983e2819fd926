use Rattle.std.proofs.Common.{◌≡◌, ◌∙◌, sym}
use Rattle.sop_model.specs.declared.geo.Geo.{Geo}
use Rattle.sop_model.specs.Rows.{head_named}
use Rattle.sop_vault.proofs.VaultLemmas.{here_held, call_counted, unchanged}
use Rattle.sop_vault.proofs.HeadLemmas.{asked, apart_here, gone_clause}
use Rattle.sop_vault.proofs.vault.Vault.del_attr.Goals as goal

pub returns-in_default-clause-err : goal.returns-in_default-clause-err
returns-in_default-clause-err c = unchanged c.args.self.now

pub del_attr-requires-clause-held : goal.del_attr-requires-clause-held
del_attr-requires-clause-held c = here_held c.self.inside.shelf c.self.inside.names c.self.inside.sheets.slots c.self.invariant c.number.result c.in-Some-get_mut.sheet.now (sym c.in-Some-get_mut.ensures.value)

pub del_attr-requires-clause-apart : goal.del_attr-requires-clause-apart
del_attr-requires-clause-apart c =
    apart_here c.self.inside.shelf c.self.inside.names c.self.inside.sheets.slots c.self.invariant c.number.result c.in-Some-get_mut.sheet.now (sym c.in-Some-get_mut.ensures.value) c.args.class c.args.name.now c.requires.apart c.in-Some.head
    (sym (asked c.self.inside.shelf c.self.inside.names c.self.inside.sheets.slots c.self.invariant c.number.result c.in-Some-get_mut.sheet.now (sym c.in-Some-get_mut.ensures.value) c.args.self.now c.self.view_is c.args.key c.number.ensures (λ (g : Geo). c.attr_named.result ≡ head_named g c.args.class c.args.name.now) c.attr_named.ensures) ∙ c.in-Some.is)

pub invariant_of-self : goal.invariant_of-self
invariant_of-self c = call_counted c.self.inside.shelf c.self.inside.names c.self.inside.sheets.slots c.self.invariant c.number.result c.in-Some-get_mut.sheet.now (sym c.in-Some-get_mut.ensures.value) c.del_attr.new.shelf c.self.inside.names c.del_attr.new.self c.each_is_counted.ensures c.del_attr.ensures.gone.step

pub returns-clause-ok : goal.returns-clause-ok
returns-clause-ok c =
    let same = sym (asked c.self.inside.shelf c.self.inside.names c.self.inside.sheets.slots c.self.invariant c.number.result c.in-Some-get_mut.sheet.now (sym c.in-Some-get_mut.ensures.value) c.args.self.now c.self.view_is c.args.key c.number.ensures (λ (g : Geo). c.attr_named.result ≡ head_named g c.args.class c.args.name.now) c.attr_named.ensures) ∙ c.in-Some.is in
    gone_clause c.self.inside.shelf c.self.inside.names c.self.inside.sheets.slots c.self.invariant c.number.result c.in-Some-get_mut.sheet.now (sym c.in-Some-get_mut.ensures.value) c.del_attr.new.shelf c.self.inside.names c.del_attr.new.self c.each_is_counted.ensures c.args.class c.args.name.now c.in-Some.head same c.del_attr.ensures.gone c.args.self.now c.self.view_is c.args.key c.number.ensures
