use Rattle.std.proofs.Common.{sym}
use Rattle.std.specs.Prelude.{◌↔◌, IsTrue, IfSome}
use Rattle.sop_model.specs.declared.geo.Geo.{Geo}
use Rattle.sop_model.specs.Geometry.{IsWithin}
use Rattle.sop_model.specs.Appending.{appended}
use Rattle.sop_sheets.specs.Sheets.{geo_of}
use Rattle.sop_vault.specs.Keyed.{at}
use Rattle.sop_vault.proofs.HeadLemmas.{told}
use Rattle.sop_vault.proofs.vault.Vault.has_room_for.Goals as goal

pub returns : goal.returns
returns c =
    let s = c.self.inside.shelf in let n = c.self.inside.names in let slots = c.self.inside.sheets.slots in let v = c.args.self.now in
    let first = c.in-Some.first.now in let second = c.in-Some-get.second.now in
    told s n slots c.self.invariant c.number-2.result second (sym c.in-Some-get.ensures) v c.self.view_is c.args.from c.number-2.ensures
    (λ (b : Geo). IfSome (at v.geos c.args.into) (λ a. IsTrue c.takes.result ↔ IsWithin (appended a b)))
    (told s n slots c.self.invariant c.number.result first (sym c.in-Some.ensures) v c.self.view_is c.args.into c.number.ensures (λ (a : Geo). IsTrue c.takes.result ↔ IsWithin (appended a (geo_of s n second))) c.takes.ensures)
