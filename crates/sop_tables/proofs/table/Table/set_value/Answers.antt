use Rattle.std.proofs.Common.{◌≡◌, ◌∙◌, ◌<◌, [], List, length, ap, sym, subst, arith}
use Rattle.std.specs.Prelude.{slice_set}
use Rattle.std.proofs.lemmas.List.{get_or-set_same}
use Rattle.sop_cells.specs.declared.place.Place.{Place}
use Rattle.sop_cells.specs.Shelves.{column, shared, Shifts}
use Rattle.sop_columns.specs.Values.{values, IsColumn}
use Rattle.sop_model.specs.Rows.{changed_at, with_value}
use Rattle.sop_tables.specs.Tables.{TableLists, rows, column_at, with_column, IsTableStep, IsSparing}
use Rattle.sop_tables.proofs.StepLemmas.{many_columns, column_there, element_there}
use Rattle.sop_tables.proofs.ReadLemmas.{put_back}
use Rattle.sop_tables.proofs.SetLemmas.{same_step, column_read, value_set_step, value_set_rows}
use Rattle.sop_tables.proofs.table.Table.set_value.Goals as goal
use Rattle.sop_tables.proofs.table.Table.set_value.Goals.{After-self, After-index_mut-column}

read : (c : After-index_mut-column) → c.index_mut-column.result.now ≡ column_at c.args.self.now c.args.head
read c = column_read c.args.shelf.now c.args.shelf.now c.args.names.now c.args.names.now c.args.self.now c.requires.table c.requires.held c.args.head c.requires.head c.self.inside.columns.items c.index_mut-column.result.now
    (ap (λ (t : TableLists). t.columns) c.self.view_is) c.index_mut-column.ensures.value

pub index_mut-column-requires : goal.index_mut-column-requires
index_mut-column-requires c =
    let l = many_columns c.args.shelf.now c.args.names.now c.args.self.now c.requires.table c.requires.held in let e = ap (λ (t : TableLists). length t.columns) c.self.view_is in omega arith

pub set-requires-clause-column : goal.set-requires-clause-column
set-requires-clause-column c =
    subst (IsColumn c.args.shelf.now c.args.names.now) (sym (read (goal.at.set-requires-clause-column c).After-index_mut-column))
    (column_there c.args.shelf.now c.args.names.now c.args.self.now c.requires.table c.requires.held c.args.head c.requires.head)

pub set-requires-clause-within : goal.set-requires-clause-within
set-requires-clause-within c =
    let P : List Place → Type 0 = λ p. c.args.element < length (column c.args.shelf.now p) in
    subst P (sym (read (goal.at.set-requires-clause-within c).After-index_mut-column))
    (element_there c.args.shelf.now c.args.names.now c.args.self.now c.requires.table c.requires.held c.args.head c.requires.head c.args.element c.requires.element)

pub returns-in_err-set-clause-step : goal.returns-in_err-set-clause-step
returns-in_err-set-clause-step c =
    same_step c.args.shelf.now c.set.new.shelf c.args.names.now c.set.new.names c.args.self.now c.requires.table c.requires.held _ c.in_err-set.ensures.err.0
    (ap (λ (cs : List (List Place)). record { set = c.self.inside.set; columns = cs; members = c.self.inside.members.items; count = c.self.inside.count })
    (put_back c.self.inside.columns.items c.args.head c.index_mut-column.result.now c.set.new.self c.index_mut-column.ensures.value c.in_err-set.ensures.err.1) ∙ c.self.view_is)
    c.set.ensures.grows

pub returns-clause-rows : goal.returns-clause-rows
returns-clause-rows c =
    let at = read (goal.at.returns-clause-rows c).After-index_mut-column in
    let P : TableLists → Type 0 = λ t. rows c.set.new.shelf c.set.new.names t ≡ changed_at (with_value c.args.head c.args.value.now) (rows c.args.shelf.now c.args.names.now c.args.self.now) c.args.element in
    let Q : List Place → Type 0 = λ p. Shifts c.args.shelf.now c.set.new.shelf p c.set.new.self in
    subst P (ap (λ (t : TableLists). with_column t c.args.head c.set.new.self) (sym c.self.view_is))
    (value_set_rows c.args.shelf.now c.set.new.shelf c.args.names.now c.set.new.names c.args.self.now c.requires.table c.requires.held c.args.head c.requires.head c.args.element c.requires.element c.args.value.now c.set.new.self
    (subst Q at c.set.ensures.shifts) c.set.ensures.grows c.set.ensures.column (c.set.ensures.len ∙ ap (λ (p : List Place). length p) at)
    (c.in_ok-set.ensures.values ∙ ap (λ (p : List Place). slice_set (values c.args.shelf.now c.args.names.now p) c.args.element c.args.value.now) at))

pub returns-clause-step : goal.returns-clause-step
returns-clause-step c =
    let at = read (goal.at.returns-clause-step c).After-index_mut-column in
    let P : TableLists → Type 0 = λ t. IsTableStep c.args.shelf.now c.set.new.shelf c.args.names.now c.set.new.names c.args.self.now t in
    let Q : List Place → Type 0 = λ p. Shifts c.args.shelf.now c.set.new.shelf p c.set.new.self in
    subst P (ap (λ (t : TableLists). with_column t c.args.head c.set.new.self) (sym c.self.view_is))
    (value_set_step c.args.shelf.now c.set.new.shelf c.args.names.now c.set.new.names c.args.self.now c.requires.table c.requires.held c.args.head c.requires.head c.args.element c.requires.element c.args.value.now c.set.new.self
    (subst Q at c.set.ensures.shifts) c.set.ensures.grows c.set.ensures.column (c.set.ensures.len ∙ ap (λ (p : List Place). length p) at)
    (c.in_ok-set.ensures.values ∙ ap (λ (p : List Place). slice_set (values c.args.shelf.now c.args.names.now p) c.args.element c.args.value.now) at))

pub returns-clause-sparing : goal.returns-clause-sparing
returns-clause-sparing c =
    let at = read (goal.at.returns-clause-sparing c).After-index_mut-column in
    let here : column_at (with_column c.args.self.now c.args.head c.set.new.self) c.args.head ≡ c.set.new.self =
    get_or-set_same c.args.self.now.columns c.args.head c.set.new.self [] (let l = many_columns c.args.shelf.now c.args.names.now c.args.self.now c.requires.table c.requires.held in let r = c.requires.head in omega arith) in
    let P : TableLists → Type 0 = λ t. IsSparing c.args.shelf.now c.set.new.shelf (column_at c.args.self.now c.args.head) (column_at t c.args.head) in
    let spare = c.set.ensures.spare in
    subst P (ap (λ (t : TableLists). with_column t c.args.head c.set.new.self) (sym c.self.view_is)) (record {
      pages = c.set.ensures.pages;
      rises = c.set.ensures.rises;
      spare = let a = ap (shared c.args.shelf.now) at in let b = ap (shared c.set.new.shelf) here in omega arith;
      falls = c.set.ensures.falls;
    })
