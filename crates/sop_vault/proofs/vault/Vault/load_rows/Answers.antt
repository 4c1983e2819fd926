use Rattle.sop_vault.proofs.VaultLemmas.{unchanged}
use Rattle.sop_vault.proofs.vault.Vault.load_rows.Goals as goal

pub returns-then-not-is_within-clause-err : goal.returns-then-not-is_within-clause-err
returns-then-not-is_within-clause-err c = unchanged c.args.self.now
