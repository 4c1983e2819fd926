use Rattle.std.proofs.Common.{◌≡◌, ◌<◌, ◌∙◌, ℕ, List, ap, sym, subst}
use Rattle.std.specs.Prelude.{Some, slice_get}
use Rattle.std.specs.Option.{option_and_then}
use Rattle.sop_model.specs.declared.geo.Row.{Row}
use Rattle.sop_model.specs.Values.{value_seen}
use Rattle.sop_tables.specs.Tables.{TableLists, places_in, rows, IsHeld}
use Rattle.sop_sheets.proofs.ViewLemmas.{count_in, rows_in, table_in}
use Rattle.sop_sheets.proofs.view.GeoRefGeoView.value.Goals as goal

pub get-requires-clause-held : goal.get-requires-clause-held
get-requires-clause-held c =
    subst (λ (t : TableLists). IsHeld c.self.inside.shelf.now (places_in t)) (sym c.table-table.ensures) (table_in c.self.inside.shelf.now c.self.inside.names.now c.self.inside.sheet.now c.self.invariant.0 c.args.self.now c.self.view_is c.self.invariant.1 c.args.class)

pub get-requires-clause-element : goal.get-requires-clause-element
get-requires-clause-element c =
    subst (λ (k : ℕ). c.args.element < k) (sym (ap (λ (t : TableLists). t.count) c.table-table.ensures ∙ count_in c.self.inside.shelf.now c.self.inside.names.now c.self.inside.sheet.now c.self.invariant.0 c.args.self.now c.self.view_is c.args.class)) c.requires.element

pub returns : goal.returns
returns c =
    subst (λ (rs : List Row). option_and_then (λ row. slice_get row.values c.args.head) (slice_get rs c.args.element) ≡ Some (value_seen c.get.result))
    (ap (rows c.self.inside.shelf.now c.self.inside.names.now) c.table-table.ensures ∙ rows_in c.self.inside.shelf.now c.self.inside.names.now c.self.inside.sheet.now c.self.invariant.0 c.args.self.now c.self.view_is c.args.class)
    c.get.ensures
