use Rattle.std.proofs.Common.{◌≡◌, ◌∙◌, map, ap, sym}
use Rattle.sop_model.specs.declared.geo.Geo.{Geo}
use Rattle.sop_model.specs.Rows.{column_of, column_cleared}
use Rattle.sop_cells.specs.Shelves.{joined}
use Rattle.sop_columns.specs.Names.{value_of}
use Rattle.sop_vault.specs.Vaults.{VaultMap}
use Rattle.sop_vault.proofs.VaultLemmas.{here_held, call_counted, stays_counted, changed_clause, kept_clause, err_by}
use Rattle.sop_vault.proofs.HeadLemmas.{told}
use Rattle.sop_vault.proofs.vault.Vault.take_loose.Goals as goal

pub take_loose-taken-requires-clause-held : goal.take_loose-taken-requires-clause-held
take_loose-taken-requires-clause-held c = here_held c.self.inside.shelf c.self.inside.names c.self.inside.sheets.slots c.self.invariant c.number.result c.in-Some.sheet.now (sym c.in-Some.ensures.value)

pub invariant_of-self : goal.invariant_of-self
invariant_of-self c = stays_counted c.self.inside.shelf c.self.inside.names c.self.inside.sheets.slots c.self.invariant c.number.result c.in-Some.sheet.now (sym c.in-Some.ensures.value) c.take_loose-taken.new.shelf c.take_loose-taken.new.names c.take_loose-taken.new.self c.each_is_counted.ensures c.in_err-pages.ensures.err

pub returns-in_err-pages-clause-err : goal.returns-in_err-pages-clause-err
returns-in_err-pages-clause-err c = err_by c.from_residual.result (kept_clause c.self.inside.shelf c.self.inside.names c.self.inside.sheets.slots c.self.invariant c.number.result c.in-Some.sheet.now (sym c.in-Some.ensures.value) c.take_loose-taken.new.shelf c.take_loose-taken.new.names c.take_loose-taken.new.self c.each_is_counted.ensures c.in_err-pages.ensures.err c.args.self.now c.self.view_is)

pub invariant_of-self-2 : goal.invariant_of-self-2
invariant_of-self-2 c = call_counted c.self.inside.shelf c.self.inside.names c.self.inside.sheets.slots c.self.invariant c.number.result c.in-Some.sheet.now (sym c.in-Some.ensures.value) c.take_loose-taken.new.shelf c.take_loose-taken.new.names c.take_loose-taken.new.self c.each_is_counted.ensures c.in_ok-pages.ensures.ok.step

pub returns-clause-ok : goal.returns-clause-ok
returns-clause-ok c = changed_clause c.self.inside.shelf c.self.inside.names c.self.inside.sheets.slots c.self.invariant c.number.result c.in-Some.sheet.now (sym c.in-Some.ensures.value) c.take_loose-taken.new.shelf c.take_loose-taken.new.names c.take_loose-taken.new.self c.each_is_counted.ensures (λ (g : Geo). column_cleared g c.args.class c.args.head) c.in_ok-pages.ensures.ok c.args.self.now c.self.view_is c.args.key c.number.ensures

pub returns-clause-values : goal.returns-clause-values
returns-clause-values c =
    told c.self.inside.shelf c.self.inside.names c.self.inside.sheets.slots c.self.invariant c.number.result c.in-Some.sheet.now (sym c.in-Some.ensures.value) c.args.self.now c.self.view_is c.args.key c.number.ensures (λ (g : Geo). map (value_of c.args.self.now.names) (joined c.in_ok-pages.pages) ≡ column_of g c.args.class c.args.head)
    (ap (λ (v : VaultMap). map (value_of v.names) (joined c.in_ok-pages.pages)) (sym c.self.view_is) ∙ c.in_ok-pages.ensures.values)
