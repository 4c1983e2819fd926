use Rattle.std.proofs.Common.{◌∙◌, sym, subst}
use Rattle.sop_model.specs.declared.geo.Geo.{Geo}
use Rattle.sop_model.specs.Geometry.{IsReadable, IsSound, IsWithin, AreValuesWithin}
use Rattle.sop_sheets.proofs.SheetLemmas.{sheet_stands}
use Rattle.sop_vault.proofs.VaultLemmas.{here_held, sheet_here}
use Rattle.sop_vault.proofs.vault.Vault.view.Goals as goal

pub new-requires-clause-held : goal.new-requires-clause-held
new-requires-clause-held c = here_held c.self.inside.shelf c.self.inside.names c.self.inside.sheets.slots c.self.invariant c.key.inside.key c.in-Some.sheet.now (sym c.in-Some.ensures)

-- the geometry is that of a sheet
here : (c : goal.After-new) → IsReadable c.new.result × AreValuesWithin c.new.result
here c =
    let s = c.self.inside.shelf in let n = c.self.inside.names in let sheet = c.in-Some.sheet.now in
    let is = sheet_here s n c.self.inside.sheets.slots c.self.invariant c.key.inside.key sheet (sym c.in-Some.ensures) in
    let e = sym (sheet_stands s n sheet is) ∙ sym c.new.ensures in
    (record { sound = subst (λ (g : Geo). IsSound g) e is.sound; within = subst (λ (g : Geo). IsWithin g) e is.within }, subst (λ (g : Geo). AreValuesWithin g) e is.values)

pub returns-clause-readable : goal.returns-clause-readable
returns-clause-readable c = (here c).0

pub returns-clause-values : goal.returns-clause-values
returns-clause-values c = (here c).1
