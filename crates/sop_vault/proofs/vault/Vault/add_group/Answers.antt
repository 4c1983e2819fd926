use Rattle.std.proofs.Common.{ℕ, List, sym, subst}
use Rattle.sop_model.specs.declared.geo.Geo.{Geo}
use Rattle.sop_model.specs.Rows.{group_added}
use Rattle.sop_sheets.specs.Sheets.{geo_of, Becomes}
use Rattle.sop_vault.proofs.VaultLemmas.{here_held, call_counted, changed_clause, unchanged, err_by}
use Rattle.sop_vault.proofs.vault.Vault.add_group.Goals as goal

pub returns-in-Err-clause-err : goal.returns-in-Err-clause-err
returns-in-Err-clause-err c = unchanged c.args.self.now

pub returns-in_err-name-clause-err : goal.returns-in_err-name-clause-err
returns-in_err-name-clause-err c = err_by c.from_residual.result (unchanged c.args.self.now)

pub add_group-added-requires-clause-held : goal.add_group-added-requires-clause-held
add_group-added-requires-clause-held c = here_held c.self.inside.shelf c.self.inside.names c.self.inside.sheets.slots c.self.invariant c.number.result c.in-Some.sheet.now (sym c.in-Some.ensures.value)

pub invariant_of-self-2 : goal.invariant_of-self-2
invariant_of-self-2 c = call_counted c.self.inside.shelf c.self.inside.names c.self.inside.sheets.slots c.self.invariant c.number.result c.in-Some.sheet.now (sym c.in-Some.ensures.value) c.self.inside.shelf c.self.inside.names c.add_group-added.new.self c.each_is_counted.ensures c.in_ok-added.ensures.ok.step

pub returns-clause-ok : goal.returns-clause-ok
returns-clause-ok c =
    let op = λ (name : List ℕ) (g : Geo). group_added g c.args.class name in
    let here = geo_of c.self.inside.shelf c.self.inside.names c.in-Some.sheet.now in
    let made = subst (λ (name : List ℕ). Becomes c.self.inside.shelf c.self.inside.shelf c.self.inside.names c.self.inside.names c.in-Some.sheet.now c.add_group-added.new.self (op name here)) c.in_ok-name.ensures c.in_ok-added.ensures.ok in
    changed_clause c.self.inside.shelf c.self.inside.names c.self.inside.sheets.slots c.self.invariant c.number.result c.in-Some.sheet.now (sym c.in-Some.ensures.value) c.self.inside.shelf c.self.inside.names c.add_group-added.new.self c.each_is_counted.ensures (op c.args.name.now) made c.args.self.now c.self.view_is c.args.key c.number.ensures
