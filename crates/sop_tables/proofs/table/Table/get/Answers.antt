use Rattle.std.proofs.Common.{◌≡◌, ◌<◌, [], List, length, ap, sym, subst, arith}
use Rattle.std.specs.Prelude.{slice_get, Some}
use Rattle.sop_cells.specs.declared.place.Place.{Place}
use Rattle.sop_cells.specs.Shelves.{column}
use Rattle.sop_model.specs.Values.{value_seen}
use Rattle.sop_columns.specs.Values.{values, IsColumn}
use Rattle.sop_tables.specs.Tables.{TableLists, column_at}
use Rattle.sop_tables.proofs.StepLemmas.{many_columns, column_there, element_there}
use Rattle.sop_tables.proofs.ReadLemmas.{at_view, value_read}
use Rattle.sop_tables.proofs.table.Table.get.Goals as goal
use Rattle.sop_tables.proofs.table.Table.get.Goals.{After-self, After-index}

there : (c : After-self) → c.args.head < length c.args.self.now.columns
there c = let l = many_columns c.args.shelf.now c.args.names.now c.args.self.now c.requires.table c.requires.held in omega arith

read : (c : After-index) → c.index.result.now ≡ column_at c.args.self.now c.args.head
read c = at_view c.self.inside.columns.items c.args.self.now.columns c.args.head c.index.result.now [] (ap (λ (t : TableLists). t.columns) c.self.view_is) (there (goal.at.get-requires-clause-column c).After-self) c.index.ensures

pub index-requires : goal.index-requires
index-requires c = let l = there (goal.at.index-requires c).After-self in let e = ap (λ (t : TableLists). length t.columns) c.self.view_is in omega arith

pub get-requires-clause-column : goal.get-requires-clause-column
get-requires-clause-column c =
    subst (IsColumn c.args.shelf.now c.args.names.now) (sym (read c)) (column_there c.args.shelf.now c.args.names.now c.args.self.now c.requires.table c.requires.held c.args.head c.requires.head)

pub get-requires-clause-within : goal.get-requires-clause-within
get-requires-clause-within c =
    let P : List Place → Type 0 = λ p. c.args.element < length (column c.args.shelf.now p) in
    subst P (sym (read c)) (element_there c.args.shelf.now c.args.names.now c.args.self.now c.requires.table c.requires.held c.args.head c.requires.head c.args.element c.requires.element)

pub returns : goal.returns
returns c =
    let P : List Place → Type 0 = λ p. slice_get (values c.args.shelf.now c.args.names.now p) c.args.element ≡ Some (value_seen c.get.result) in
    value_read c.args.shelf.now c.args.names.now c.args.self.now c.args.element c.requires.element c.args.head (there (goal.at.returns c).After-self) (value_seen c.get.result)
    (subst P (read (goal.at.returns c).After-index) c.get.ensures)
