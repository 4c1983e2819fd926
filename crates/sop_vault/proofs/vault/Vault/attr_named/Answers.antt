use Rattle.std.proofs.Common.{◌≡◌, ◌∙◌, sym}
use Rattle.sop_model.specs.declared.geo.Geo.{Geo}
use Rattle.sop_model.specs.Rows.{head_named}
use Rattle.sop_vault.proofs.HeadLemmas.{told, named_here}
use Rattle.sop_vault.proofs.vault.Vault.attr_named.Goals as goal

pub returns : goal.returns
returns c =
    told c.self.inside.shelf c.self.inside.names c.self.inside.sheets.slots c.self.invariant c.number.result c.in-Some.sheet.now (sym c.in-Some.ensures) c.args.self.now c.self.view_is c.args.key c.number.ensures (λ (g : Geo). c.find.result ≡ head_named g c.args.class c.args.name.now)
    (c.find.ensures ∙ named_here c.self.inside.shelf c.self.inside.names c.self.inside.sheets.slots c.self.invariant c.number.result c.in-Some.sheet.now (sym c.in-Some.ensures) c.args.class c.args.name.now)
