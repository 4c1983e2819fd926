use Rattle.std.proofs.Common.{[], refl}
use Rattle.sop_cells.proofs.PlaceLemmas.{stays}
use Rattle.sop_vault.proofs.VaultLemmas.{idle_counted, idle_before}
use Rattle.sop_vault.proofs.vault.Vault.cell.Goals as goal

pub invariant_of-self : goal.invariant_of-self
invariant_of-self c =
    idle_counted c.self.inside.shelf c.self.inside.shelf c.self.inside.names c.cell.new.self c.self.inside.sheets.slots c.self.invariant
    (record { shifts = stays c.self.inside.shelf c.self.inside.shelf [] refl; grows = c.cell.ensures.grows }) c.each_is_counted.ensures

pub returns-clause-kept : goal.returns-clause-kept
returns-clause-kept c =
    idle_before c.self.inside.shelf c.self.inside.shelf c.self.inside.names c.cell.new.self c.self.inside.sheets.slots c.self.invariant
    (record { shifts = stays c.self.inside.shelf c.self.inside.shelf [] refl; grows = c.cell.ensures.grows }) c.each_is_counted.ensures c.args.self.now c.self.view_is
