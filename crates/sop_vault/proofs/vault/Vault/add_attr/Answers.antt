use Rattle.std.proofs.Common.{ℕ, List, sym, subst}
use Rattle.sop_model.specs.declared.geo.Geo.{Geo}
use Rattle.sop_model.specs.Rows.{attr_added}
use Rattle.sop_sheets.specs.Sheets.{geo_of, Becomes}
use Rattle.sop_vault.specs.Keyed.{at}
use Rattle.sop_vault.proofs.VaultLemmas.{here_held, call_counted, stays_counted, changed_clause, kept_clause, unchanged, err_by}
use Rattle.sop_vault.proofs.HeadLemmas.{some_map}
use Rattle.sop_vault.proofs.vault.Vault.add_attr.Goals as goal

pub returns-in-Err-clause-refused : goal.returns-in-Err-clause-refused
returns-in-Err-clause-refused c = some_map (at c.args.self.now.geos c.args.key) (λ g why. why c.args.kind) c.in-Err.ensures.refused

pub returns-in-Err-clause-err : goal.returns-in-Err-clause-err
returns-in-Err-clause-err c = unchanged c.args.self.now

pub returns-in_err-name-clause-err : goal.returns-in_err-name-clause-err
returns-in_err-name-clause-err c = err_by c.from_residual.result (unchanged c.args.self.now)

pub add_attr-added-requires-clause-held : goal.add_attr-added-requires-clause-held
add_attr-added-requires-clause-held c = here_held c.self.inside.shelf c.self.inside.names c.self.inside.sheets.slots c.self.invariant c.number.result c.in-Some.sheet.now (sym c.in-Some.ensures.value)

pub invariant_of-self : goal.invariant_of-self
invariant_of-self c = stays_counted c.self.inside.shelf c.self.inside.names c.self.inside.sheets.slots c.self.invariant c.number.result c.in-Some.sheet.now (sym c.in-Some.ensures.value) c.add_attr-added.new.shelf c.add_attr-added.new.names c.add_attr-added.new.self c.each_is_counted.ensures c.in_err-added.ensures.err

pub returns-in_err-added-clause-err : goal.returns-in_err-added-clause-err
returns-in_err-added-clause-err c =
    err_by c.from_residual-in_err-added.result (kept_clause c.self.inside.shelf c.self.inside.names c.self.inside.sheets.slots c.self.invariant c.number.result c.in-Some.sheet.now (sym c.in-Some.ensures.value) c.add_attr-added.new.shelf c.add_attr-added.new.names c.add_attr-added.new.self c.each_is_counted.ensures c.in_err-added.ensures.err c.args.self.now c.self.view_is)

pub invariant_of-self-2 : goal.invariant_of-self-2
invariant_of-self-2 c = call_counted c.self.inside.shelf c.self.inside.names c.self.inside.sheets.slots c.self.invariant c.number.result c.in-Some.sheet.now (sym c.in-Some.ensures.value) c.add_attr-added.new.shelf c.add_attr-added.new.names c.add_attr-added.new.self c.each_is_counted.ensures c.in_ok-added.ensures.ok.step

pub returns-clause-ok : goal.returns-clause-ok
returns-clause-ok c =
    let op = λ (name : List ℕ) (g : Geo). attr_added g c.args.class (record { name = name; kind = c.args.kind }) in
    let here = geo_of c.self.inside.shelf c.self.inside.names c.in-Some.sheet.now in
    let made = subst (λ (name : List ℕ). Becomes c.self.inside.shelf c.add_attr-added.new.shelf c.self.inside.names c.add_attr-added.new.names c.in-Some.sheet.now c.add_attr-added.new.self (op name here)) c.in_ok-name.ensures c.in_ok-added.ensures.ok in
    changed_clause c.self.inside.shelf c.self.inside.names c.self.inside.sheets.slots c.self.invariant c.number.result c.in-Some.sheet.now (sym c.in-Some.ensures.value) c.add_attr-added.new.shelf c.add_attr-added.new.names c.add_attr-added.new.self c.each_is_counted.ensures (op c.args.name.now) made c.args.self.now c.self.view_is c.args.key c.number.ensures
