use Rattle.std.proofs.Common.{◌+◌, ◌≤◌, ◌∙◌, length, sym, refl, arith}
use Rattle.sop_model.specs.declared.class.Class.TheVariants.{Prim, Point, Vertex}
use Rattle.sop_model.specs.declared.geo.Geo.{Geo}
use Rattle.sop_model.specs.Limits.{most_vertices}
use Rattle.sop_model.specs.Geometry.{count_of}
use Rattle.sop_model.specs.Rows.{vertices_added, ArePlaces}
use Rattle.sop_sheets.proofs.ViewLemmas.{count_in}
use Rattle.sop_vault.specs.Refusals.{PassesLimit}
use Rattle.sop_vault.proofs.VaultLemmas.{sheet_here}
use Rattle.sop_vault.proofs.HeadLemmas.{told}
use Rattle.sop_vault.proofs.ElementLemmas.{are_pairs, not_pairs, vertices_full, prims_within}
use Rattle.sop_vault.proofs.vault.Vault.try_vertices.Goals as goal

pub returns-then-not-are_places-clause-refused : goal.returns-then-not-are_places-clause-refused
returns-then-not-are_places-clause-refused c =
    let is = sheet_here c.self.inside.shelf c.self.inside.names c.self.inside.sheets.slots c.self.invariant c.number.result c.in-Some.sheet.now (sym c.in-Some.ensures) in
    told c.self.inside.shelf c.self.inside.names c.self.inside.sheets.slots c.self.invariant c.number.result c.in-Some.sheet.now (sym c.in-Some.ensures) c.args.self.now c.self.view_is c.args.key c.number.ensures (λ (g : Geo). ArePlaces g c.args.adds.now → ⊥)
    (not_pairs c.args.adds.now c.count.result c.count-2.result _ _ (c.count.ensures ∙ count_in c.self.inside.shelf c.self.inside.names c.in-Some.sheet.now is _ refl Prim) (c.count-2.ensures ∙ count_in c.self.inside.shelf c.self.inside.names c.in-Some.sheet.now is _ refl Point) (sym c.are_places.ensures ∙ c.if-not-are_places.true))

pub returns-then-not-has_room-clause-refused : goal.returns-then-not-has_room-clause-refused
returns-then-not-has_room-clause-refused c =
    let is = sheet_here c.self.inside.shelf c.self.inside.names c.self.inside.sheets.slots c.self.invariant c.number.result c.in-Some.sheet.now (sym c.in-Some.ensures) in
    let vertices = count_in c.self.inside.shelf c.self.inside.names c.in-Some.sheet.now is _ refl Vertex in let prims = count_in c.self.inside.shelf c.self.inside.names c.in-Some.sheet.now is _ refl Prim in let few = is.tables Prim in
    let are = are_pairs c.args.adds.now c.count.result c.count-2.result _ _ (c.count.ensures ∙ count_in c.self.inside.shelf c.self.inside.names c.in-Some.sheet.now is _ refl Prim) (c.count-2.ensures ∙ count_in c.self.inside.shelf c.self.inside.names c.in-Some.sheet.now is _ refl Point) (sym c.are_places.ensures ∙ c.if-not-are_places.false) in
    told c.self.inside.shelf c.self.inside.names c.self.inside.sheets.slots c.self.invariant c.number.result c.in-Some.sheet.now (sym c.in-Some.ensures) c.args.self.now c.self.view_is c.args.key c.number.ensures (λ (g : Geo). ArePlaces g c.args.adds.now × PassesLimit (vertices_added g c.args.adds.now))
    (are, vertices_full c.self.inside.shelf c.self.inside.names c.in-Some.sheet.now is _ refl c.args.adds.now are (λ m. let w = prims_within c.self.inside.shelf c.self.inside.names c.in-Some.sheet.now is in let yes = c.has_room.ensures.1 (omega arith, omega arith) in let no = c.if-not-has_room.true in cc))

pub returns-clause-ok : goal.returns-clause-ok
returns-clause-ok c =
    let is = sheet_here c.self.inside.shelf c.self.inside.names c.self.inside.sheets.slots c.self.invariant c.number.result c.in-Some.sheet.now (sym c.in-Some.ensures) in
    let vertices = count_in c.self.inside.shelf c.self.inside.names c.in-Some.sheet.now is _ refl Vertex in
    let room = c.has_room.ensures.0 c.if-not-has_room.false in let m = room.1 in
    told c.self.inside.shelf c.self.inside.names c.self.inside.sheets.slots c.self.invariant c.number.result c.in-Some.sheet.now (sym c.in-Some.ensures) c.args.self.now c.self.view_is c.args.key c.number.ensures (λ (g : Geo). ArePlaces g c.args.adds.now × (count_of g Vertex + length c.args.adds.now ≤ most_vertices))
    (are_pairs c.args.adds.now c.count.result c.count-2.result _ _ (c.count.ensures ∙ count_in c.self.inside.shelf c.self.inside.names c.in-Some.sheet.now is _ refl Prim) (c.count-2.ensures ∙ count_in c.self.inside.shelf c.self.inside.names c.in-Some.sheet.now is _ refl Point) (sym c.are_places.ensures ∙ c.if-not-are_places.false), omega arith)
