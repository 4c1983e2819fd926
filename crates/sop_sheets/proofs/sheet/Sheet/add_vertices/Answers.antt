use Rattle.std.proofs.Common.{◌≡◌, ◌<◌, ◌+◌, ◌∙◌, ℕ, List, [], ◌∷◌, ◌++◌, length, eqb-true, ap, sym, subst, refl, arith}
use Rattle.std.specs.Prelude.{All}
use Rattle.std.proofs.lemmas.Bool.{eqb-false}
use Rattle.std.proofs.lemmas.List.Elements.{All-weaker}
use Rattle.sop_model.specs.declared.class.Class.TheVariants.{Prim, Point, Vertex}
use Rattle.sop_model.specs.declared.geo.Geo.{Geo}
use Rattle.sop_model.specs.Geometry.{empty_row, count_of}
use Rattle.sop_model.specs.Rows.{default_row, picked, vertices_added, HasElement}
use Rattle.sop_shape.specs.Shapes.{ShapeLists, HasShape}
use Rattle.sop_pages.specs.Moves.{Covers}
use Rattle.sop_cells.specs.Places.{own}
use Rattle.sop_cells.specs.Shelves.{Shifts}
use Rattle.sop_columns.proofs.NameLemmas.{grows_none}
use Rattle.sop_tables.specs.Tables.{TableLists, places_in, IsHeld}
use Rattle.sop_tables.specs.Changes.{ArePicks}
use Rattle.sop_tables.proofs.MadeLemmas.{still_held}
use Rattle.sop_sheets.specs.Sheets.{SheetLists, places_of, geo_of, IsSheet, Becomes}
use Rattle.sop_sheets.specs.contracts.sheet.Sheet.{the_view}
use Rattle.sop_sheets.proofs.ViewLemmas.{count_in, shape_in, set_in, rows_in, table_in}
use Rattle.sop_sheets.proofs.CallLemmas.{err_by, stays_still}
use Rattle.sop_sheets.proofs.GrowLemmas.{swap_table}
use Rattle.sop_sheets.proofs.AddLemmas.{prims_many, vertices_many, nil_by, none_becomes, numbers_within, numbers_many, vertices_becomes}
use Rattle.sop_sheets.proofs.sheet.Sheet.add_vertices.Goals as goal
use Rattle.sop_sheets.proofs.sheet.Sheet.add_vertices.Goals.{After-shape}

pub returns-then-is_empty-clause-ok : goal.returns-then-is_empty-clause-ok
returns-then-is_empty-clause-ok c =
    let here = geo_of c.args.shelf.now c.args.names.now c.args.self.now in
    let none = nil_by c.args.adds.now (eqb-true (length c.args.adds.now) 0 (sym c.is_empty.ensures ∙ c.if-is_empty.true)) in
    let after = λ (adds : List (ℕ × ℕ)). Becomes c.args.shelf.now c.args.shelf.now c.args.names.now c.args.names.now c.args.self.now c.args.self.now (vertices_added here adds) in
    subst after (sym none) (none_becomes c.args.shelf.now c.args.names.now c.args.self.now c.requires.sheet here refl)

-- the geometry, and the sheet told by its parts
abbrev here : After-shape → Geo
here c = geo_of c.args.shelf.now c.args.names.now c.args.self.now

was : (c : After-shape) → IsSheet c.args.shelf.now c.args.names.now (the_view c.self.inside)
was c = subst (IsSheet c.args.shelf.now c.args.names.now) (sym c.self.view_is) c.requires.sheet

seen : (c : After-shape) → geo_of c.args.shelf.now c.args.names.now (the_view c.self.inside) ≡ here c
seen c = ap (geo_of c.args.shelf.now c.args.names.now) c.self.view_is

held : (c : After-shape) → IsHeld c.args.shelf.now (places_in c.self.inside.vertex)
held c =
    subst (λ (sheet : SheetLists). IsHeld c.args.shelf.now (places_in sheet.vertex)) (sym c.self.view_is)
    (table_in c.args.shelf.now c.args.names.now c.args.self.now c.requires.sheet _ refl c.requires.held Vertex)

count : (c : After-shape) → c.self.inside.vertex.count ≡ count_of (here c) Vertex
count c = count_in c.args.shelf.now c.args.names.now (the_view c.self.inside) (was c) (here c) (seen c) Vertex

-- the shape that is read is that of the geometry
has : (c : After-shape) → HasShape (here c) c.shape.result.now
has c = shape_in c.args.shelf.now c.args.names.now (the_view c.self.inside) (was c) (here c) (seen c) ∙ sym c.shape.ensures

pub with_vertices-requires-clause-prims : goal.with_vertices-requires-clause-prims
with_vertices-requires-clause-prims c =
    let d = (goal.at.with_vertices-requires-clause-prims c).After-shape in
    let long = ap (λ (shape : ShapeLists). length shape.closed) c.shape.ensures ∙ prims_many c.args.shelf.now c.args.names.now (the_view c.self.inside) (was d) (here d) (seen d) in
    subst (λ (k : ℕ). All (λ (a : ℕ × ℕ). a.0 < k) c.args.adds.now) (sym long)
    (All-weaker (λ (a : ℕ × ℕ). HasElement (here d) Prim a.0 × HasElement (here d) Point a.1) (λ (a : ℕ × ℕ). a.0 < count_of (here d) Prim) (λ a both. both.0) c.args.adds.now c.requires.places)

pub with_vertices-requires-clause-vertices : goal.with_vertices-requires-clause-vertices
with_vertices-requires-clause-vertices c =
    let d = (goal.at.with_vertices-requires-clause-vertices c).After-shape in
    let long = ap (λ (shape : ShapeLists). length shape.refers) c.shape.ensures ∙ vertices_many c.args.shelf.now c.args.names.now (the_view c.self.inside) (was d) (here d) (seen d) in
    let few = c.requires.vertices in
    omega arith

pub returns-in_err-shape-clause-err : goal.returns-in_err-shape-clause-err
returns-in_err-shape-clause-err c = err_by c.from_residual.result (stays_still c.args.shelf.now c.args.shelf.now c.args.names.now c.args.names.now c.args.self.now c.args.self.now (grows_none c.args.names.now) refl refl)

pub returns-in_err-topology-clause-err : goal.returns-in_err-topology-clause-err
returns-in_err-topology-clause-err c =
    err_by c.from_residual-in_err-topology.result (stays_still c.args.shelf.now c.args.shelf.now c.args.names.now c.args.names.now c.args.self.now c.args.self.now (grows_none c.args.names.now) refl refl)

pub picked_with_new-requires-clause-table : goal.picked_with_new-requires-clause-table
picked_with_new-requires-clause-table c = (was (goal.at.picked_with_new-requires-clause-table c).After-shape).tables Vertex

pub picked_with_new-requires-clause-held : goal.picked_with_new-requires-clause-held
picked_with_new-requires-clause-held c = held (goal.at.picked_with_new-requires-clause-held c).After-shape

pub picked_with_new-requires-clause-most : goal.picked_with_new-requires-clause-most
picked_with_new-requires-clause-most c =
    let many = count (goal.at.picked_with_new-requires-clause-most c).After-shape in
    let some = eqb-false (length c.args.adds.now) 0 (sym c.is_empty.ensures ∙ c.if-is_empty.false) in
    let few = c.requires.vertices in
    omega arith

pub picked_with_new-requires-clause-numbers : goal.picked_with_new-requires-clause-numbers
picked_with_new-requires-clause-numbers c =
    let d = (goal.at.picked_with_new-requires-clause-numbers c).After-shape in
    let numbers = c.in_ok-shape.numbers.items in
    let told = c.in_ok-shape.ensures.rows in
    let long = numbers_many (here d) c.shape.result.now (has d) c.args.adds.now numbers told c.requires.places in
    let few = c.requires.vertices in
    let within = numbers_within (here d) c.shape.result.now (has d) c.args.adds.now numbers told in
    let picks : ArePicks (count_of (here d) Vertex + 1) numbers = record { within = within; few = omega arith } in
    subst (ArePicks (c.self.inside.vertex.count + 1)) (sym c.as_slice.ensures.value) (subst (λ (k : ℕ). ArePicks (k + 1) numbers) (sym (count d)) picks)

pub release-requires : goal.release-requires
release-requires c = record {
  held =
      let d = (goal.at.release-requires c).After-shape in
      subst (λ (tb : TableLists). IsHeld c.picked_with_new.new.shelf (places_in tb)) (sym c.replace-old.ensures.value)
      (still_held c.args.shelf.now c.picked_with_new.new.shelf (places_in c.in_ok-vertex.vertex) (places_in c.self.inside.vertex) c.in_ok-vertex.ensures.made.shifts (held d));
}

pub returns-clause-ok : goal.returns-clause-ok
returns-clause-ok c =
    let d = (goal.at.returns-clause-ok c).After-shape in
    let s = c.args.shelf.now in
    let b = c.picked_with_new.new.shelf in
    let t = c.release.new.shelf in
    let n = c.args.names.now in
    let m = c.picked_with_new.new.names in
    let sheet = the_view c.self.inside in
    let adds = c.args.adds.now in
    let v = c.in_ok-vertex.vertex in
    let gone = subst (λ (old : TableLists). Shifts b t (places_in old) []) c.replace-old.ensures.value c.release.ensures.shifts in
    let swapped = swap_table s b t n m c.self.inside.vertex v (held d) c.in_ok-vertex.ensures.made gone in
    let were = rows_in s n sheet (was d) (here d) (seen d) Vertex in
    let heads = set_in s n sheet (was d) (here d) (seen d) Vertex in
    let numbers = c.as_slice.ensures.value in
    let row = swapped.1 ∙ c.in_ok-vertex.ensures.rows ∙ (λ j. picked (were j ++ default_row (heads j) ∷ []) empty_row (numbers j)) ∙ sym (c.in_ok-shape.ensures.rows (here d) (has d)) in
    let shape = subst (HasShape (vertices_added (here d) adds)) (sym c.in_ok-topology.ensures) (c.in_ok-shape.ensures.shape (here d) (has d)) in
    let covered = subst (λ (old : SheetLists). Covers s.own (own (places_of old))) (sym c.self.view_is) c.requires.held.covered in
    let made = vertices_becomes s n sheet (was d) (here d) (seen d) adds c.requires.places c.requires.vertices t m v c.in_ok-topology.topology covered swapped.0 c.in_ok-vertex.ensures.set row shape in
    let after = λ (old : SheetLists) (w : TableLists). Becomes s t n m old (the_view (record c.self.inside { vertex = w; topology = c.in_ok-topology.topology })) (vertices_added (here d) adds) in
    subst (λ (old : SheetLists). after old c.replace-old.new.dest) c.self.view_is (subst (after sheet) (sym c.replace-old.ensures.after) made)
