use Rattle.std.proofs.Common.{◌≡◌, ◌∙◌, List, [], ap, sym, subst, refl}
use Rattle.sop_cells.specs.declared.place.Place.{Place}
use Rattle.sop_cells.specs.Shelves.{Shifts}
use Rattle.sop_cells.proofs.PlaceLemmas.{stays}
use Rattle.sop_columns.proofs.NameLemmas.{grows_none}
use Rattle.sop_tables.specs.Tables.{TableLists, places_in, rows, IsTableStep}
use Rattle.sop_sheets.proofs.GrowLemmas.{swap_table}
use Rattle.sop_sheets.proofs.growing.grow.Goals as goal
use Rattle.sop_sheets.proofs.growing.grow.Goals.{After-release}

pub returns-then-has_room-clause-step : goal.returns-then-has_room-clause-step
returns-then-has_room-clause-step c =
    let e = c.occupy.ensures in
    let P : List Place → Type 0 = Shifts c.args.shelf.now c.args.shelf.now (places_in c.args.table.now) in
    record { shifts = subst P (sym e.places) (stays c.args.shelf.now c.args.shelf.now (places_in c.args.table.now) refl); grows = grows_none c.args.names.now; table = e.table }

swapped : (c : After-release) → IsTableStep c.args.shelf.now c.release.new.shelf c.args.names.now c.changed.new.names c.args.table.now c.in_ok-longer.longer × (rows c.release.new.shelf c.changed.new.names c.in_ok-longer.longer ≡ rows c.changed.new.shelf c.changed.new.names c.in_ok-longer.longer)
swapped c =
    let P : TableLists → Type 0 = λ old. Shifts c.changed.new.shelf c.release.new.shelf (places_in old) [] in
    swap_table c.args.shelf.now c.changed.new.shelf c.release.new.shelf c.args.names.now c.changed.new.names c.args.table.now c.in_ok-longer.longer c.requires.held c.in_ok-longer.ensures.made
    (subst P c.replace-old.ensures.value c.release.ensures.shifts)

pub returns-clause-rows : goal.returns-clause-rows
returns-clause-rows c =
    let d = (goal.at.returns-clause-rows c).After-release in
    ap (rows c.release.new.shelf c.changed.new.names) c.replace-old.ensures.after ∙ (swapped d).1 ∙ c.in_ok-longer.ensures.rows

pub returns-clause-step : goal.returns-clause-step
returns-clause-step c =
    let d = (goal.at.returns-clause-step c).After-release in
    let P : TableLists → Type 0 = IsTableStep c.args.shelf.now c.release.new.shelf c.args.names.now c.changed.new.names c.args.table.now in
    subst P (sym c.replace-old.ensures.after) (swapped d).0
