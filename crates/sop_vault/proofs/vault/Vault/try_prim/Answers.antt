use Rattle.std.proofs.Common.{◌+◌, ◌<◌, ◌≤◌, ◌∙◌, length, sym, refl, arith}
use Rattle.sop_model.specs.declared.class.Class.TheVariants.{Prim, Point, Vertex}
use Rattle.sop_model.specs.declared.geo.Geo.{Geo}
use Rattle.sop_model.specs.Limits.{most_prims, most_vertices}
use Rattle.sop_model.specs.Geometry.{count_of}
use Rattle.sop_model.specs.Rows.{prim_added, ArePoints}
use Rattle.sop_sheets.proofs.ViewLemmas.{count_in}
use Rattle.sop_vault.specs.Refusals.{PassesLimit}
use Rattle.sop_vault.proofs.VaultLemmas.{sheet_here}
use Rattle.sop_vault.proofs.HeadLemmas.{told}
use Rattle.sop_vault.proofs.ElementLemmas.{are_below, not_below, prim_full}
use Rattle.sop_vault.proofs.vault.Vault.try_prim.Goals as goal

pub returns-then-not-are_below-clause-refused : goal.returns-then-not-are_below-clause-refused
returns-then-not-are_below-clause-refused c =
    let is = sheet_here c.self.inside.shelf c.self.inside.names c.self.inside.sheets.slots c.self.invariant c.number.result c.in-Some.sheet.now (sym c.in-Some.ensures) in
    λ closed. told c.self.inside.shelf c.self.inside.names c.self.inside.sheets.slots c.self.invariant c.number.result c.in-Some.sheet.now (sym c.in-Some.ensures) c.args.self.now c.self.view_is c.args.key c.number.ensures (λ (g : Geo). ArePoints g c.args.points.now → ⊥)
    (not_below c.args.points.now c.count.result _ (c.count.ensures ∙ count_in c.self.inside.shelf c.self.inside.names c.in-Some.sheet.now is _ refl Point) (sym c.are_below.ensures ∙ c.if-not-are_below.true))

pub returns-then-not-has_room-clause-refused : goal.returns-then-not-has_room-clause-refused
returns-then-not-has_room-clause-refused c =
    let is = sheet_here c.self.inside.shelf c.self.inside.names c.self.inside.sheets.slots c.self.invariant c.number.result c.in-Some.sheet.now (sym c.in-Some.ensures) in
    let prims = count_in c.self.inside.shelf c.self.inside.names c.in-Some.sheet.now is _ refl Prim in let vertices = count_in c.self.inside.shelf c.self.inside.names c.in-Some.sheet.now is _ refl Vertex in
    λ closed. told c.self.inside.shelf c.self.inside.names c.self.inside.sheets.slots c.self.invariant c.number.result c.in-Some.sheet.now (sym c.in-Some.ensures) c.args.self.now c.self.view_is c.args.key c.number.ensures (λ (g : Geo). ArePoints g c.args.points.now × PassesLimit (prim_added g closed c.args.points.now)) (
      are_below c.args.points.now c.count.result _ (c.count.ensures ∙ count_in c.self.inside.shelf c.self.inside.names c.in-Some.sheet.now is _ refl Point) (sym c.are_below.ensures ∙ c.if-not-are_below.false),
      prim_full c.self.inside.shelf c.self.inside.names c.in-Some.sheet.now is _ refl closed c.args.points.now (λ both. let l = both.0 in let m = both.1 in let yes = c.has_room.ensures.1 (omega arith, omega arith) in let no = c.if-not-has_room.true in cc),
    )

pub returns-clause-ok : goal.returns-clause-ok
returns-clause-ok c =
    let is = sheet_here c.self.inside.shelf c.self.inside.names c.self.inside.sheets.slots c.self.invariant c.number.result c.in-Some.sheet.now (sym c.in-Some.ensures) in
    let prims = count_in c.self.inside.shelf c.self.inside.names c.in-Some.sheet.now is _ refl Prim in let vertices = count_in c.self.inside.shelf c.self.inside.names c.in-Some.sheet.now is _ refl Vertex in
    let room = c.has_room.ensures.0 c.if-not-has_room.false in let l = room.0 in let m = room.1 in
    told c.self.inside.shelf c.self.inside.names c.self.inside.sheets.slots c.self.invariant c.number.result c.in-Some.sheet.now (sym c.in-Some.ensures) c.args.self.now c.self.view_is c.args.key c.number.ensures (λ (g : Geo). ArePoints g c.args.points.now × (count_of g Prim < most_prims) × (count_of g Vertex + length c.args.points.now ≤ most_vertices))
    (are_below c.args.points.now c.count.result _ (c.count.ensures ∙ count_in c.self.inside.shelf c.self.inside.names c.in-Some.sheet.now is _ refl Point) (sym c.are_below.ensures ∙ c.if-not-are_below.false), omega arith, omega arith)
