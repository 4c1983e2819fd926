use Rattle.std.proofs.Common.{◌∙◌, List, [], ap, sym, subst}
use Rattle.sop_cells.specs.declared.place.Place.{Place}
use Rattle.sop_cells.specs.Shelves.{joined, column, IsKept, Shifts}
use Rattle.sop_cells.proofs.PartLemmas.{again_blocks, again_kept}
use Rattle.sop_cells.proofs.cells.Cells.again.Goals as goal
use Rattle.sop_cells.proofs.cells.Cells.again.Goals.{After-hold}

held : (c : After-hold) → Shifts c.args.shelf.now c.hold.new.shelf [] c.args.self.now
held c = subst (λ (ps : List Place). Shifts c.args.shelf.now c.hold.new.shelf [] ps) c.in_ok-cells.ensures c.hold.ensures.shifts

pub returns-clause-cells : goal.returns-clause-cells
returns-clause-cells c = ap (column c.hold.new.shelf) c.in_ok-cells.ensures ∙ ap joined (again_blocks c.args.shelf.now c.hold.new.shelf c.args.self.now c.requires.kept (held (goal.at.returns-clause-cells c).After-hold))

pub returns-clause-kept : goal.returns-clause-kept
returns-clause-kept c = subst (IsKept c.hold.new.shelf) (sym c.in_ok-cells.ensures) (again_kept c.args.shelf.now c.hold.new.shelf c.args.self.now c.requires.kept (held (goal.at.returns-clause-kept c).After-hold))
