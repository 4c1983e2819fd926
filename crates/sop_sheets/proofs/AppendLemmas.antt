-- One geometry behind another: the tables that stand for both together.
use Rattle.std.proofs.Common.{◌≡◌, ◌≢◌, ℕ, ◌+◌, ◌≤◌, ◌^◌, ◌<◌, [], ◌∷◌, ◌++◌, length, map, refl, ap, sym, ◌∙◌, subst, arith}
use Rattle.std.specs.Prelude.{All}
use Rattle.sop_model.specs.declared.class.Class.{Class}
use Rattle.sop_model.specs.declared.class.Class.TheVariants.{Detail, Prim, Point, Vertex}
use Rattle.sop_model.specs.declared.geo.Geo.{Geo}
use Rattle.sop_model.specs.declared.geo.HeadSet.{HeadSet}
use Rattle.sop_model.specs.declared.geo.Row.{Row}
use Rattle.sop_model.specs.Limits.{most_prims, most_vertices, most_heads, most_groups}
use Rattle.sop_model.specs.Geometry.{heads_of, rows_of, count_of, empty_row, AreKept, IsRowOf, set_bounds, IsSound, IsWithin}
use Rattle.sop_model.specs.Appending.{appended}
use Rattle.sop_model.specs.Merge.{row_under}
use Rattle.sop_model.specs.Rows.{first_row}
use Rattle.sop_rows.specs.Both.{both_sets, row_widened, AreWithinBoth}
use Rattle.sop_rows.proofs.AppendedParts.{heads_of-appended, rows_of-appended, detail_of-appended, IsWithin-appended, few-appended}
use Rattle.sop_cells.specs.Shelves.{ShelfPages, Shifts}
use Rattle.sop_columns.specs.Names.{NameTable}
use Rattle.sop_tables.specs.Tables.{TableLists, rows, IsHeld}
use denote.Bor.{Bor}
use Rattle.std.proofs.lemmas.List.{length-map}
use Rattle.std.proofs.lemmas.List.Elements.{All-map, All-weaker}
use Rattle.sop_model.specs.declared.geo.Corner.{Corner}
use Rattle.sop_model.specs.Vertices.{corners_of}
use Rattle.sop_rows.proofs.LawLemmas.{leave_sound, leave_values_within}
use Rattle.sop_shape.specs.Shapes.{ShapeLists, HasShape}
use Rattle.sop_tables.specs.Changes.{set_after, row_beside, rows_changed, Fits, IsSource, IsOther, ComesBehind, ComesBeside}
use Rattle.sop_tables.specs.declared.changed.Change.TheVariants.{Appended, Widened}
use Rattle.sop_sheets.specs.Together.{CountsFit, SetFits, SetsFit}
use Rattle.sop_sheets.specs.Remade.{change_of, IsRemade}
use Rattle.sop_sheets.specs.declared.remade.Changes.{Changes}
use Rattle.sop_sheets.proofs.SheetLemmas.{sheet_stands}
use Rattle.sop_sheets.proofs.RemadeLemmas.{remade_becomes}
use Rattle.sop_sheets.specs.Sheets.{SheetLists, table_of, places_of, geo_of, IsSheet, Becomes}
use Rattle.sop_sheets.proofs.ViewLemmas.{rows_many, table_in, prims_in, vertices_in}

-- two geometries that stand on a shelf, and both together are within the limits
module _ (s : ShelfPages) (n : NameTable) (one two : SheetLists) (is : IsSheet s n one) (other : IsSheet s n two) (held : IsHeld s (places_of two)) (within : IsWithin (appended is.geo other.geo)) where
  abbrev a : Geo
  a = is.geo

  abbrev b : Geo
  b = other.geo

  both : AreWithinBoth a b
  both = few-appended a b is.sound other.sound within

  few_in : (class : Class) → AreKept (set_bounds (both_sets (table_of one class).set (table_of two class).set))
  few_in class =
      let P : HeadSet → HeadSet → Type 0 = λ x y. AreKept (set_bounds (both_sets x y)) in
      subst (λ x. P x (table_of two class).set) (sym (is.stands.sets class)) (subst (λ y. P (heads_of a class) y) (sym (other.stands.sets class)) (both.heads class, (both.groups class, tt)))

  is_other : (class : Class) → IsOther s n (table_of two class)
  is_other class = record {
    table = other.tables class;
    held = table_in s n two other (geo_of s n two) refl held class;
    kinds =
        let P : HeadSet → Type 0 = λ set. All (IsRowOf set) (rows s n (table_of two class)) in
        subst P (sym (other.stands.sets class)) (subst (All (IsRowOf (heads_of b class))) (sym (other.stands.rows class)) (other.sound.rows class));
  }

  counts_in : (class : Class) → ((table_of one class).count ≡ count_of a class) × ((table_of two class).count ≡ count_of b class)
  counts_in class = (sym (rows_many s n (table_of one class)) ∙ ap length (is.stands.rows class), sym (rows_many s n (table_of two class)) ∙ ap length (other.stands.rows class))

  -- the table of each class but the detail comes behind the other
  pub comes_behind : (class : Class) → count_of a class + count_of b class ≤ most_vertices → ComesBehind s n (table_of one class) (table_of two class)
  comes_behind class most = record { other = is_other class; few = few_in class; most = let c = counts_in class in let d = c.0 in let e = c.1 in omega arith }

  pub points_few : count_of a Point + count_of b Point ≤ most_vertices
  points_few = let p = both.points in omega arith

  pub prims_few : count_of a Prim + count_of b Prim ≤ most_prims
  prims_few = both.prims

  pub vertices_few : count_of a Vertex + count_of b Vertex ≤ most_vertices
  vertices_few = both.vertices

  -- the detail comes beside the other
  pub comes_beside : ComesBeside s n one.detail two.detail
  comes_beside = record {
    other = is_other Detail;
    few = few_in Detail;
    one = (counts_in Detail).0;
    other_one = (counts_in Detail).1;
    no_groups = ap (λ (set : HeadSet). set.groups) (is.stands.sets Detail) ∙ is.sound.detail_groups;
    no_other_groups = ap (λ (set : HeadSet). set.groups) (other.stands.sets Detail) ∙ other.sound.detail_groups;
  }

  -- heads, groups and rows of both
  pub sets_of_both : (class : Class) → both_sets (table_of one class).set (table_of two class).set ≡ heads_of (appended a b) class
  sets_of_both class =
      let x = is.stands.sets class in let y = other.stands.sets class in
      (λ j. both_sets (x j) (y j)) ∙ sym (heads_of-appended a b is.sound other.sound class)

  pub rows_of_both : (class : Class) → class ≢ Detail → map (row_widened (table_of one class).set (table_of two class).set) (rows s n (table_of one class))
      ++ map (row_under (both_sets (table_of one class).set (table_of two class).set) (table_of two class).set) (rows s n (table_of two class)) ≡ rows_of (appended a b) class
  rows_of_both class ne =
      let x = is.stands.sets class in let y = other.stands.sets class in let u = is.stands.rows class in let v = other.stands.rows class in
      (λ j. map (row_widened (x j) (y j)) (u j) ++ map (row_under (both_sets (x j) (y j)) (y j)) (v j)) ∙ sym (rows_of-appended a b is.sound other.sound class ne)

  pub detail_of_both : row_beside one.detail.set two.detail.set (first_row (rows s n one.detail) empty_row) (first_row (rows s n two.detail) empty_row) ∷ [] ≡ rows_of (appended a b) Detail
  detail_of_both =
      let x = is.stands.sets Detail in let y = other.stands.sets Detail in let u = is.stands.rows Detail in let v = other.stands.rows Detail in
      (λ j. row_beside (x j) (y j) (first_row (u j) empty_row) (first_row (v j) empty_row) ∷ []) ∙ ap (λ (r : Row). r ∷ []) (sym (detail_of-appended a b is.sound other.sound))

  -- THE SHAPE

  prims_here : length one.shape.closed + length two.shape.closed ≡ count_of a Prim + count_of b Prim
  prims_here =
      let x = prims_in s n one is a (sheet_stands s n one is) in let y = prims_in s n two other b (sheet_stands s n two other) in
      let u = length-map a.prims (λ p. p.row) in let v = length-map b.prims (λ p. p.row) in omega arith

  pub shape_prims : length one.shape.closed + length two.shape.closed ≤ most_prims
  shape_prims = let e = prims_here in let f = both.prims in omega arith

  pub shape_vertices : length one.shape.refers + length two.shape.refers ≤ most_vertices
  shape_vertices =
      let x = vertices_in s n one is a (sheet_stands s n one is) in let y = vertices_in s n two other b (sheet_stands s n two other) in
      let u = length-map (corners_of a.prims) (λ c. c.row) in let v = length-map (corners_of b.prims) (λ c. c.row) in let f = both.vertices in omega arith

  pub points_here : one.point.count ≡ count_of a Point
  points_here = (counts_in Point).0

  pub shape_points : (points : ℕ) → points ≡ one.point.count → All (λ k. points + k < 2 ^ 32) two.shape.refers
  shape_points points same =
      let e = points_here in let f = both.points in
      subst (All (λ k. points + k < 2 ^ 32)) (ap (λ (shape : ShapeLists). shape.refers) other.stands.shape)
      (All-map (λ k. points + k < 2 ^ 32) (λ (c : Corner). c.point) (corners_of b.prims)
      (All-weaker (λ (c : Corner). c.point < length b.points) (λ c. points + c.point < 2 ^ 32) (λ c l. omega arith) (corners_of b.prims) other.sound.points))

  -- BOTH TOGETHER

  module _ (t u : ShelfPages) (m : NameTable) (d p o v : Bor TableLists) (de : d.now ≡ two.detail) (pe : p.now ≡ two.prim) (oe : o.now ≡ two.point) (ve : v.now ≡ two.vertex) (made : SheetLists)
      (held_one : IsHeld s (places_of one)) (remade : IsRemade s t n m one (record { detail = Widened d; prim = Appended p; point = Appended o; vertex = Appended v }) made) (gone : Shifts t u (places_of one) [])
      (shape : ShapeLists) (has : (x y : Geo) → IsSound x → IsSound y → HasShape x one.shape → HasShape y two.shape → count_of x Point ≡ one.point.count → HasShape (appended x y) shape) where
    abbrev changes : Changes
    changes = record { detail = Widened d; prim = Appended p; point = Appended o; vertex = Appended v }

    sets_are : (class : Class) → set_after (table_of one class).set (change_of changes class) ≡ heads_of (appended a b) class
    sets_are Detail = ap (λ (tb : TableLists). both_sets one.detail.set tb.set) de ∙ sets_of_both Detail
    sets_are Prim = ap (λ (tb : TableLists). both_sets one.prim.set tb.set) pe ∙ sets_of_both Prim
    sets_are Point = ap (λ (tb : TableLists). both_sets one.point.set tb.set) oe ∙ sets_of_both Point
    sets_are Vertex = ap (λ (tb : TableLists). both_sets one.vertex.set tb.set) ve ∙ sets_of_both Vertex

    behind : (class : Class) (tb : TableLists) → tb ≡ table_of two class → class ≢ Detail → map (row_widened (table_of one class).set tb.set) (rows s n (table_of one class))
        ++ map (row_under (both_sets (table_of one class).set tb.set) tb.set) (rows s n tb) ≡ rows_of (appended a b) class
    behind class tb e ne =
        ap (λ (x : TableLists). map (row_widened (table_of one class).set x.set) (rows s n (table_of one class)) ++ map (row_under (both_sets (table_of one class).set x.set) x.set) (rows s n x)) e ∙ rows_of_both class ne

    rows_are : (class : Class) → rows_changed s n (table_of one class) (change_of changes class) ≡ rows_of (appended a b) class
    rows_are Detail = ap (λ (x : TableLists). row_beside one.detail.set x.set (first_row (rows s n one.detail) empty_row) (first_row (rows s n x) empty_row) ∷ []) de ∙ detail_of_both
    rows_are Prim = behind Prim p.now pe (λ e. cc)
    rows_are Point = behind Point o.now oe (λ e. cc)
    rows_are Vertex = behind Vertex v.now ve (λ e. cc)

    pub append_becomes : Becomes s u n m one (record made { shape = shape }) (appended (geo_of s n one) (geo_of s n two))
    append_becomes =
        let x = sym (sheet_stands s n one is) in let y = sym (sheet_stands s n two other) in
        let P : Geo → Geo → Type 0 = λ g h. Becomes s u n m one (record made { shape = shape }) (appended g h) in
        subst (λ g. P g (geo_of s n two)) x (subst (λ h. P a h) y
        (remade_becomes s t u n m one changes made held_one remade gone (appended a b) shape sets_are rows_are (has a b is.sound other.sound is.stands.shape other.stands.shape (sym points_here))
        (leave_sound.append a b is.sound other.sound) within (leave_values_within.append a b is.sound other.sound is.values other.values)))

-- told of the geometries that stand there
pub within_both : (s : ShelfPages) (n : NameTable) (one two : SheetLists) (is : IsSheet s n one) (other : IsSheet s n two) → IsWithin (appended (geo_of s n one) (geo_of s n two)) → IsWithin (appended is.geo other.geo)
within_both s n one two is other within = let x = sheet_stands s n one is in let y = sheet_stands s n two other in subst (λ (g : Geo). IsWithin g) (λ j. appended (x j) (y j)) within

-- the sources of all classes
pub sources : (s : ShelfPages) (n : NameTable) (sheet : SheetLists) (changes : Changes) → IsSheet s n sheet → IsHeld s (places_of sheet) → Fits s n sheet.detail changes.detail → Fits s n sheet.prim changes.prim
    → Fits s n sheet.point changes.point → Fits s n sheet.vertex changes.vertex → (class : Class) → IsSource s n (table_of sheet class) (change_of changes class)
sources s n sheet change is held d p o v Detail = record { table = is.tables Detail; held = table_in s n sheet is (geo_of s n sheet) refl held Detail; fits = d }
sources s n sheet change is held d p o v Prim = record { table = is.tables Prim; held = table_in s n sheet is (geo_of s n sheet) refl held Prim; fits = p }
sources s n sheet change is held d p o v Point = record { table = is.tables Point; held = table_in s n sheet is (geo_of s n sheet) refl held Point; fits = o }
sources s n sheet change is held d p o v Vertex = record { table = is.tables Vertex; held = table_in s n sheet is (geo_of s n sheet) refl held Vertex; fits = v }

-- WITHIN THE LIMITS TOGETHER

pub all_fit : (one two : SheetLists) → SetFits one two Detail × SetFits one two Prim → SetFits one two Point × SetFits one two Vertex → SetsFit one two
all_fit one two front back = record { each = each }
  where
    each : (class : Class) → SetFits one two class
    each Detail = front.0
    each Prim = front.1
    each Point = back.0
    each Vertex = back.1

module _ (s : ShelfPages) (n : NameTable) (one two : SheetLists) (is : IsSheet s n one) (other : IsSheet s n two) where
  counts : (class : Class) → ((table_of one class).count ≡ count_of is.geo class) × ((table_of two class).count ≡ count_of other.geo class)
  counts class = (sym (rows_many s n (table_of one class)) ∙ ap length (is.stands.rows class), sym (rows_many s n (table_of two class)) ∙ ap length (other.stands.rows class))

  sets_together : (class : Class) → both_sets (table_of one class).set (table_of two class).set ≡ both_sets (heads_of is.geo class) (heads_of other.geo class)
  sets_together class = let x = is.stands.sets class in let y = other.stands.sets class in λ j. both_sets (x j) (y j)

  geos_together : appended is.geo other.geo ≡ appended (geo_of s n one) (geo_of s n two)
  geos_together = let x = sym (sheet_stands s n one is) in let y = sym (sheet_stands s n two other) in λ j. appended (x j) (y j)

  pub fits_within : CountsFit one two → SetsFit one two → IsWithin (appended (geo_of s n one) (geo_of s n two))
  fits_within few kept =
      subst (λ (g : Geo). IsWithin g) geos_together (IsWithin-appended is.geo other.geo is.sound other.sound (record {
        points = let c = counts Point in let x = c.0 in let y = c.1 in let f = few.points in omega arith;
        prims = let c = counts Prim in let x = c.0 in let y = c.1 in let f = few.prims in omega arith;
        vertices = let c = counts Vertex in let x = c.0 in let y = c.1 in let f = few.vertices in omega arith;
        heads = λ class. subst (λ (set : HeadSet). length set.heads ≤ most_heads) (sets_together class) (kept.each class).kept.0;
        groups = λ class. subst (λ (set : HeadSet). length set.groups ≤ most_groups) (sets_together class) (kept.each class).kept.1.0;
      }))

  both_within : IsWithin (appended (geo_of s n one) (geo_of s n two)) → AreWithinBoth is.geo other.geo
  both_within within = few-appended is.geo other.geo is.sound other.sound (subst (λ (g : Geo). IsWithin g) (sym geos_together) within)

  pub within_counts : IsWithin (appended (geo_of s n one) (geo_of s n two)) → CountsFit one two
  within_counts within =
      let both = both_within within in
      record {
        points = let c = counts Point in let x = c.0 in let y = c.1 in let f = both.points in omega arith;
        prims = let c = counts Prim in let x = c.0 in let y = c.1 in let f = both.prims in omega arith;
        vertices = let c = counts Vertex in let x = c.0 in let y = c.1 in let f = both.vertices in omega arith;
      }

  pub within_sets : IsWithin (appended (geo_of s n one) (geo_of s n two)) → SetsFit one two
  within_sets within =
      let both = both_within within in
      record { each = λ class. record { kept = subst (λ (set : HeadSet). AreKept (set_bounds set)) (sym (sets_together class)) (both.heads class, (both.groups class, tt)) } }
