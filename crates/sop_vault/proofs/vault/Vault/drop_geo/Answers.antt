use Rattle.std.proofs.Common.{ℕ, subst, refl}
use Rattle.std.specs.Prelude.{Some, None}
use Rattle.sop_columns.proofs.NameLemmas.{grows_none}
use Rattle.sop_vault.specs.Vaults.{VaultMap, vault_of, Changed}
use Rattle.sop_vault.proofs.VaultLemmas.{here_held, step_kept, step_changed}
use Rattle.sop_vault.proofs.vault.Vault.drop_geo.Goals as goal

pub release-requires : goal.release-requires
release-requires c = record { held = here_held c.self.inside.shelf c.self.inside.names c.self.inside.sheets.slots c.self.invariant c.key.inside.key c.remove-sheet.result c.remove-sheet.ensures.value }

pub invariant_of-self : goal.invariant_of-self
invariant_of-self c =
    step_kept c.self.inside.shelf c.release.new.shelf c.self.inside.names c.self.inside.names c.self.inside.sheets.slots c.remove-sheet.new.self.slots c.self.invariant c.key.inside.key (Some c.remove-sheet.result) None
    (grows_none c.self.inside.names) c.remove-sheet.ensures.value c.remove-sheet.ensures.updates.changed c.remove-sheet.ensures.updates.others c.release.ensures.shifts c.each_is_counted.ensures tt

pub returns-clause-gone : goal.returns-clause-gone
returns-clause-gone c =
    let after = vault_of c.release.new.shelf c.self.inside.names c.remove-sheet.new.self.slots in
    let made = step_changed c.self.inside.shelf c.release.new.shelf c.self.inside.names c.self.inside.names c.self.inside.sheets.slots c.remove-sheet.new.self.slots c.self.invariant c.key.inside.key (Some c.remove-sheet.result) None
    (grows_none c.self.inside.names) c.remove-sheet.ensures.value c.remove-sheet.ensures.updates.changed c.remove-sheet.ensures.updates.others c.release.ensures.shifts c.each_is_counted.ensures None refl in
    subst (λ (k : ℕ). Changed c.args.self.now after k None) c.key.view_is (subst (λ (v : VaultMap). Changed v after c.key.inside.key None) c.self.view_is made)
