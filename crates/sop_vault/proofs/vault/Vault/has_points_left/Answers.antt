use Rattle.std.proofs.Common.{◌+◌, ◌≤◌, sym, ◌∙◌, refl, arith}
use Rattle.std.specs.Prelude.{◌↔◌, IsTrue}
use Rattle.std.proofs.lemmas.Bool.Decides.{nat_tests}
use Rattle.sop_model.specs.declared.class.Class.TheVariants.{Point}
use Rattle.sop_model.specs.declared.geo.Geo.{Geo}
use Rattle.sop_model.specs.Geometry.{count_of}
use Rattle.sop_model.specs.Limits.{most_points}
use Rattle.sop_sheets.proofs.ViewLemmas.{count_in}
use Rattle.sop_vault.proofs.VaultLemmas.{sheet_here}
use Rattle.sop_vault.proofs.HeadLemmas.{told}
use Rattle.sop_vault.proofs.vault.Vault.has_points_left.Goals as goal

pub returns : goal.returns
returns c =
    let here = sheet_here c.self.inside.shelf c.self.inside.names c.self.inside.sheets.slots c.self.invariant c.number.result c.in-Some.sheet.now (sym c.in-Some.ensures) in
    let many = c.count.ensures ∙ count_in c.self.inside.shelf c.self.inside.names c.in-Some.sheet.now here _ refl Point in
    told c.self.inside.shelf c.self.inside.names c.self.inside.sheets.slots c.self.invariant c.number.result c.in-Some.sheet.now (sym c.in-Some.ensures) c.args.self.now c.self.view_is c.args.key c.number.ensures
    (λ (g : Geo). IsTrue (lib.Dec.leb (c.count.result + c.args.more) 1000000) ↔ (count_of g Point + c.args.more ≤ most_points))
    ((λ yes. grind (arith, nat_tests)), (λ few. grind (arith, nat_tests)))
