use Rattle.std.proofs.Common.{◌≡◌, ◌∙◌, ◌<◌, ℕ, [], List, length, replicate, take, ap, sym, subst, arith, length-set}
use Rattle.std.proofs.lemmas.List.{length-replicate, get_or-set_same, set-get_or, set-set}
use Rattle.sop_model.specs.Values.{default_of}
use Rattle.sop_pages.specs.declared.cell.Cell.{Cell}
use Rattle.sop_cells.specs.declared.place.Place.{Place}
use Rattle.sop_cells.specs.Shelves.{ShelfPages, joined, column, IsKept, Shifts}
use Rattle.sop_columns.specs.Values.{values}
use Rattle.sop_tables.specs.Tables.{TableLists, rows, column_at, default_at, with_column, IsColumnOf, IsTableStep}
use Rattle.sop_tables.proofs.ColumnLemmas.{column_filled}
use Rattle.sop_tables.proofs.StepLemmas.{many_columns}
use Rattle.sop_tables.proofs.SwapLemmas.{still_kept, still_enough, still_tight, swap_step, swap_rows, loose_numbered, loose_values, default_known, undone_shifts}
use Rattle.sop_tables.proofs.table.Table.take_loose.Goals as goal
use Rattle.sop_tables.proofs.table.Table.take_loose.Goals.{After-new, After-replace-old}

in_columns : (c : After-new) → c.args.head < length c.args.self.now.columns
in_columns c = let l = many_columns c.args.shelf.now c.args.names.now c.args.self.now c.requires.table c.requires.held in let h = c.requires.head in omega arith

count_is : (c : After-new) → c.self.inside.count ≡ c.args.self.now.count
count_is c = ap (λ (t : TableLists). t.count) c.self.view_is

default_is : (c : After-new) → default_at c.args.self.now.set c.args.head ≡ default_of c.get.result.now.kind
default_is c = ap (λ (t : TableLists). default_at t.set c.args.head) (sym c.self.view_is) ∙ default_known c.self.inside.set c.args.head c.get.result.now c.get.ensures

made_values : (c : After-replace-old) → values c.new.new.shelf c.new.new.names c.in_ok-fresh.fresh ≡ replicate c.args.self.now.count (default_at c.args.self.now.set c.args.head)
made_values c =
    let e = ap (λ (t : TableLists). t.count) c.self.view_is in
    let d = ap (λ (t : TableLists). default_at t.set c.args.head) (sym c.self.view_is) ∙ default_known c.self.inside.set c.args.head c.get.result.now c.get.ensures in
    c.in_ok-fresh.ensures.values ∙ (λ j. replicate (e j) ((sym d) j))

made : (c : After-replace-old) → IsColumnOf c.new.new.shelf c.new.new.names c.args.self.now.count (default_at c.args.self.now.set c.args.head) c.in_ok-fresh.fresh
made c = column_filled c.new.new.shelf c.new.new.names c.args.self.now.count (default_at c.args.self.now.set c.args.head) c.in_ok-fresh.fresh c.in_ok-fresh.ensures.column (made_values c)

gone : (t : ShelfPages) (c : After-replace-old) → Shifts c.new.new.shelf t c.replace-old.result [] → Shifts c.new.new.shelf t (column_at c.args.self.now c.args.head) []
gone t c m = let P : List Place → Type 0 = λ p. Shifts c.new.new.shelf t p [] in subst P c.replace-old.ensures.out m

first : (c : After-replace-old) (cells : List Cell) → cells ≡ take c.self.inside.count (column c.new.new.shelf c.replace-old.result) → cells ≡ take c.args.self.now.count (column c.new.new.shelf (column_at c.args.self.now c.args.head))
first c cells e = let k = ap (λ (t : TableLists). t.count) c.self.view_is in let o = c.replace-old.ensures.out in e ∙ (λ j. take (k j) (column c.new.new.shelf (o j)))

pub replace-old-requires : goal.replace-old-requires
replace-old-requires c = in_columns (goal.at.replace-old-requires c).After-new

pub into_pages-requires-clause-kept : goal.into_pages-requires-clause-kept
into_pages-requires-clause-kept c = subst (IsKept c.new.new.shelf) (sym c.replace-old.ensures.out)
    (still_kept c.args.shelf.now c.args.names.now c.args.self.now c.requires.table c.requires.held c.args.head c.requires.head c.new.new.shelf c.in_ok-fresh.fresh c.in_ok-fresh.ensures.shifts)

pub into_pages-requires-clause-within : goal.into_pages-requires-clause-within
into_pages-requires-clause-within c =
    let e = count_is (goal.at.into_pages-requires-clause-within c).After-new in
    let o = ap (λ (p : List Place). length (column c.new.new.shelf p)) c.replace-old.ensures.out in
    let l = still_enough c.args.shelf.now c.args.names.now c.args.self.now c.requires.table c.requires.held c.args.head c.requires.head c.new.new.shelf c.in_ok-fresh.fresh c.in_ok-fresh.ensures.shifts in
    omega arith

pub into_pages-requires-clause-tight : goal.into_pages-requires-clause-tight
into_pages-requires-clause-tight c =
    let e = count_is (goal.at.into_pages-requires-clause-tight c).After-new in
    let o = ap (λ (p : List Place). length p) c.replace-old.ensures.out in
    let l = still_tight c.args.shelf.now c.args.names.now c.args.self.now c.requires.table c.requires.held c.args.head c.requires.head c.new.new.shelf c.in_ok-fresh.fresh c.in_ok-fresh.ensures.shifts in
    omega arith

pub replace-fresh-requires : goal.replace-fresh-requires
replace-fresh-requires c =
    let l = in_columns (goal.at.replace-fresh-requires c).After-new in
    let e = ap (λ (t : TableLists). length t.columns) c.replace-old.ensures.now in
    let f = length-set c.args.self.now.columns c.args.head c.in_ok-fresh.fresh in
    omega arith

pub returns-in-Ok-clause-values : goal.returns-in-Ok-clause-values
returns-in-Ok-clause-values c =
    loose_values c.args.shelf.now c.args.names.now c.args.self.now c.requires.table c.requires.held c.args.head c.requires.head c.new.new.shelf c.in_ok-fresh.fresh c.in_ok-fresh.ensures.shifts
    (joined c.in-Ok.pages) (first (goal.at.returns-in-Ok-clause-values c).After-replace-old (joined c.in-Ok.pages) c.in-Ok.ensures.cells)

pub returns-in-Ok-clause-numbered : goal.returns-in-Ok-clause-numbered
returns-in-Ok-clause-numbered c =
    loose_numbered c.args.shelf.now c.args.names.now c.args.self.now c.requires.table c.requires.held c.args.head c.requires.head c.new.new.shelf c.in_ok-fresh.fresh c.in_ok-fresh.ensures.shifts
    (joined c.in-Ok.pages) (first (goal.at.returns-in-Ok-clause-numbered c).After-replace-old (joined c.in-Ok.pages) c.in-Ok.ensures.cells)

pub returns-in-Ok-clause-rows : goal.returns-in-Ok-clause-rows
returns-in-Ok-clause-rows c =
    let d = (goal.at.returns-in-Ok-clause-rows c).After-replace-old in
    ap (rows c.into_pages.new.shelf c.new.new.names) c.replace-old.ensures.now
    ∙ swap_rows c.args.shelf.now c.args.names.now c.args.self.now c.requires.table c.requires.held c.args.head c.requires.head c.new.new.shelf c.into_pages.new.shelf c.new.new.names c.in_ok-fresh.fresh
    c.in_ok-fresh.ensures.shifts (gone c.into_pages.new.shelf d c.in-Ok.ensures.shifts) c.new.ensures.grows (made d) (replicate c.args.self.now.count (default_at c.args.self.now.set c.args.head))
    (made_values d) (length-replicate c.args.self.now.count (default_at c.args.self.now.set c.args.head))

pub returns-in-Ok-clause-step : goal.returns-in-Ok-clause-step
returns-in-Ok-clause-step c =
    let d = (goal.at.returns-in-Ok-clause-step c).After-replace-old in
    let P : TableLists → Type 0 = IsTableStep c.args.shelf.now c.into_pages.new.shelf c.args.names.now c.new.new.names c.args.self.now in
    subst P (sym c.replace-old.ensures.now)
    (swap_step c.args.shelf.now c.args.names.now c.args.self.now c.requires.table c.requires.held c.args.head c.requires.head c.new.new.shelf c.into_pages.new.shelf c.new.new.names c.in_ok-fresh.fresh
    c.in_ok-fresh.ensures.shifts (gone c.into_pages.new.shelf d c.in-Ok.ensures.shifts) c.new.ensures.grows (made d))

pub returns-in-Ok-clause-pages : goal.returns-in-Ok-clause-pages
returns-in-Ok-clause-pages c =
    let l = in_columns (goal.at.returns-in-Ok-clause-pages c).After-new in
    let e = ap (λ (t : TableLists). length (column_at t c.args.head)) c.replace-old.ensures.now in
    let f = ap (λ (p : List Place). length p) (get_or-set_same c.args.self.now.columns c.args.head c.in_ok-fresh.fresh [] l) in
    let a = c.in_ok-fresh.ensures.pages in
    let b = c.in-Ok.ensures.pages in
    omega arith

-- the old column is put back
back : (t u v : TableLists) (head : ℕ) (fresh old out again : List Place) → u ≡ with_column t head fresh → v ≡ with_column u head again → out ≡ column_at t head → again ≡ out → v ≡ t
back t u v head fresh old out again eu ev eo ea =
    ev ∙ (λ j. with_column (eu j) head (ea j)) ∙ (λ j. with_column (with_column t head fresh) head (eo j))
    ∙ ap (λ (cs : List (List Place)). record t { columns = cs }) (set-set t.columns head fresh (column_at t head) ∙ set-get_or t.columns head [])

pub returns-in-Err-clause-err : goal.returns-in-Err-clause-err
returns-in-Err-clause-err c =
    let d = (goal.at.returns-in-Err-clause-err c).After-replace-old in
    let l = in_columns (goal.at.returns-in-Err-clause-err c).After-new in
    let out : c.replace-fresh.result ≡ c.in_ok-fresh.fresh =
    c.replace-fresh.ensures.out ∙ ap (λ (t : TableLists). column_at t c.args.head) c.replace-old.ensures.now ∙ get_or-set_same c.args.self.now.columns c.args.head c.in_ok-fresh.fresh [] l in
    let same = c.in-Err.ensures.err.0 in
    let P : ShelfPages → List Place → Type 0 = λ s p. Shifts s c.release.new.shelf p [] in (
      back c.args.self.now c.replace-old.new.self c.replace-fresh.new.self c.args.head c.in_ok-fresh.fresh c.replace-old.result c.replace-old.result c.in-Err.old c.replace-old.ensures.now c.replace-fresh.ensures.now c.replace-old.ensures.out c.in-Err.ensures.err.1,
      record {
        shifts = undone_shifts c.args.shelf.now c.new.new.shelf c.release.new.shelf c.in_ok-fresh.fresh c.in_ok-fresh.ensures.shifts
            (subst (λ (s : ShelfPages). P s c.in_ok-fresh.fresh) same (subst (P c.into_pages.new.shelf) out c.release.ensures.shifts));
        grows = c.new.ensures.grows;
      },
    )
