-- What tables are made of where elements go or take another order, and the geometry that they stand for then.
use Rattle.std.proofs.Common.{◌≡◌, ℕ, ◌<◌, ◌≤◌, List, length, ap, sym, ◌∙◌, subst, arith}
use Rattle.std.specs.Prelude.{slice_index_or, All}
use Rattle.std.proofs.lemmas.List.{append-nil, length-map}
use Rattle.std.proofs.lemmas.List.Elements.{All-map}
use denote.Bor.{Bor}
use Rattle.sop_model.specs.declared.class.Class.{Class}
use Rattle.sop_model.specs.declared.class.Class.TheVariants.{Detail, Prim, Point, Vertex}
use Rattle.sop_model.specs.declared.geo.Geo.{Geo}
use Rattle.sop_model.specs.declared.geo.Row.{Row}
use Rattle.sop_model.specs.Vertices.{corners_of}
use Rattle.sop_model.specs.Geometry.{empty_row, heads_of, rows_of, count_of}
use Rattle.sop_model.specs.Rows.{picked, place_in, reordered, IsOrderOf}
use Rattle.sop_model.specs.Sweep.{MarkSet, stays, swept}
use Rattle.sop_rows.specs.Parts.{vertices_with}
use Rattle.sop_rows.proofs.LawLemmas.{leave_sound, leave_good, leave_within, leave_values_within}
use Rattle.sop_rows.proofs.OrderOps.{length-order, order_within, rows_of-renumbered, vertex_rows_of-renumbered, prims_of-reordered, count_of-reordered}
use Rattle.sop_rows.proofs.PartLemmas.{vertex_rows-reordered}
use Rattle.sop_rows.proofs.SweepLemmas.{rows_of-swept}
use Rattle.sop_shape.specs.Shapes.{ShapeLists, HasShape}
use Rattle.sop_shape.specs.Tests.{numbers_left}
use Rattle.sop_shape.proofs.CountLemmas.{kept_picked}
use Rattle.sop_shape.proofs.LeftLemmas.{places_within, places_few}
use Rattle.sop_shape.proofs.OrderLemmas.{vertices_below}
use Rattle.sop_cells.specs.Shelves.{ShelfPages}
use Rattle.sop_columns.specs.Names.{NameTable}
use Rattle.sop_tables.specs.Tables.{rows, IsHeld}
use Rattle.sop_tables.specs.Changes.{Fits, IsSource, set_after, rows_changed}
use Rattle.sop_tables.specs.declared.changed.Change.{Change}
use Rattle.sop_tables.specs.declared.changed.Change.TheVariants.{Longer, Picked}
use Rattle.sop_sheets.specs.Sheets.{SheetLists, table_of, places_of, geo_of, IsSheet}
use Rattle.sop_sheets.specs.Remade.{change_of, IsRebuilt}
use Rattle.sop_sheets.specs.declared.remade.Changes.{Changes}
use Rattle.sop_sheets.proofs.ViewLemmas.{sound_in, within_in, values_in, set_in, rows_in, count_in, shape_in, prims_in, vertices_in, table_in}

module _ (s : ShelfPages) (n : NameTable) (sheet : SheetLists) (is : IsSheet s n sheet) (g : Geo) (seen : geo_of s n sheet ≡ g) where
  -- every vertex is on a point
  pub refers_within : All (λ i. i < count_of g Point) sheet.shape.refers
  refers_within =
      subst (All (λ i. i < count_of g Point)) (ap (λ (shape : ShapeLists). shape.refers) (shape_in s n sheet is g seen))
      (All-map (λ i. i < count_of g Point) (λ c. c.point) (corners_of g.prims) (sound_in s n sheet is g seen).points)

  pub refers_many : length sheet.shape.refers ≡ count_of g Vertex
  refers_many = vertices_in s n sheet is g seen ∙ sym (length-map (corners_of g.prims) (λ c. c.row))

  pub closed_many : length sheet.shape.closed ≡ count_of g Prim
  closed_many = prims_in s n sheet is g seen ∙ sym (length-map g.prims (λ p. p.row))

  -- what is picked is there
  pub picks_fit : (class : Class) (numbers : Bor (List ℕ)) → All (λ i. i < count_of g class) numbers.now → length numbers.now ≤ count_of g class → Fits s n (table_of sheet class) (Picked numbers)
  picks_fit class numbers within few =
      let many = count_in s n sheet is g seen class in
      record { within = subst (λ (k : ℕ). All (λ i. i < k) numbers.now) (sym many) within; few = let most = (is.tables class).most in omega arith }

  pub same_fits : (class : Class) → Fits s n (table_of sheet class) (Longer 0)
  same_fits class = let most = (is.tables class).most in omega arith

  pub source_of : IsHeld s (places_of sheet) → (class : Class) (change : Change) → Fits s n (table_of sheet class) change → IsSource s n (table_of sheet class) change
  source_of held class change fits = record { table = is.tables class; held = table_in s n sheet is g seen held class; fits = fits }

  -- rows that stay, and rows that are picked
  pub same_rows : (class : Class) → rows_changed s n (table_of sheet class) (Longer 0) ≡ rows_of g class
  same_rows class = append-nil (rows s n (table_of sheet class)) ∙ rows_in s n sheet is g seen class

  pub picked_rows : (class : Class) (numbers : Bor (List ℕ)) → rows_changed s n (table_of sheet class) (Picked numbers) ≡ picked (rows_of g class) empty_row numbers.now
  picked_rows class numbers = ap (λ (rs : List Row). picked rs empty_row numbers.now) (rows_in s n sheet is g seen class)

  -- WHERE ELEMENTS GO

  module _ (marks : MarkSet) where
    -- the rows of what stays
    left_rows : (class : Class) (numbers : Bor (List ℕ)) → numbers.now ≡ numbers_left g marks class → rows_changed s n (table_of sheet class) (Picked numbers) ≡ rows_of (swept g marks) class
    left_rows class numbers are =
        picked_rows class numbers ∙ ap (picked (rows_of g class) empty_row) are ∙ sym (kept_picked (stays g marks class) empty_row (rows_of g class)) ∙ sym (rows_of-swept g marks class)

    left_fits : (class : Class) (numbers : Bor (List ℕ)) → numbers.now ≡ numbers_left g marks class → Fits s n (table_of sheet class) (Picked numbers)
    left_fits class numbers are =
        picks_fit class numbers (places_within (stays g marks class) (count_of g class) numbers.now are) (places_few (stays g marks class) (count_of g class) numbers.now are)

    module _ (prims points vertices : Bor (List ℕ)) (prims_are : prims.now ≡ numbers_left g marks Prim) (points_are : points.now ≡ numbers_left g marks Point) (vertices_are : vertices.now ≡ numbers_left g marks Vertex) where
      abbrev pub left_changes : Changes
      left_changes = record { detail = Longer 0; prim = Picked prims; point = Picked points; vertex = Picked vertices }

      pub left_sources : IsHeld s (places_of sheet) → (class : Class) → IsSource s n (table_of sheet class) (change_of left_changes class)
      left_sources held Detail = source_of held Detail (Longer 0) (same_fits Detail)
      left_sources held Prim = source_of held Prim (Picked prims) (left_fits Prim prims prims_are)
      left_sources held Point = source_of held Point (Picked points) (left_fits Point points points_are)
      left_sources held Vertex = source_of held Vertex (Picked vertices) (left_fits Vertex vertices vertices_are)

      sets : (class : Class) → set_after (table_of sheet class).set (change_of left_changes class) ≡ heads_of (swept g marks) class
      sets Detail = set_in s n sheet is g seen Detail
      sets Prim = set_in s n sheet is g seen Prim
      sets Point = set_in s n sheet is g seen Point
      sets Vertex = set_in s n sheet is g seen Vertex

      class_rows : (class : Class) → rows_changed s n (table_of sheet class) (change_of left_changes class) ≡ rows_of (swept g marks) class
      class_rows Detail = same_rows Detail
      class_rows Prim = left_rows Prim prims prims_are
      class_rows Point = left_rows Point points points_are
      class_rows Vertex = left_rows Vertex vertices vertices_are

      pub left_rebuilt : (shape : ShapeLists) → HasShape (swept g marks) shape → IsRebuilt s n sheet left_changes shape (swept g marks)
      left_rebuilt shape has = record {
        sets = sets;
        rows = class_rows;
        has = has;
        sound = (leave_good.keep g marks (sound_in s n sheet is g seen)).sound;
        within = leave_within.keep g marks (within_in s n sheet is g seen);
        values = leave_values_within.keep g marks (values_in s n sheet is g seen);
      }

  -- IN ANOTHER ORDER

  order_fits : (class : Class) (perm : Bor (List ℕ)) → IsOrderOf (count_of g class) perm.now → Fits s n (table_of sheet class) (Picked perm)
  order_fits class perm order = picks_fit class perm (order_within (count_of g class) perm.now order) (let long = length-order (count_of g class) perm.now order in omega arith)

  -- points
  module _ (perm : Bor (List ℕ)) (order : IsOrderOf (count_of g Point) perm.now) where
    abbrev pub point_changes : Changes
    point_changes = record { detail = Longer 0; prim = Longer 0; point = Picked perm; vertex = Longer 0 }

    pub point_sources : IsHeld s (places_of sheet) → (class : Class) → IsSource s n (table_of sheet class) (change_of point_changes class)
    point_sources held Detail = source_of held Detail (Longer 0) (same_fits Detail)
    point_sources held Prim = source_of held Prim (Longer 0) (same_fits Prim)
    point_sources held Point = source_of held Point (Picked perm) (order_fits Point perm order)
    point_sources held Vertex = source_of held Vertex (Longer 0) (same_fits Vertex)

    point_sets : (class : Class) → set_after (table_of sheet class).set (change_of point_changes class) ≡ heads_of (reordered g Point perm.now) class
    point_sets Detail = set_in s n sheet is g seen Detail
    point_sets Prim = set_in s n sheet is g seen Prim
    point_sets Point = set_in s n sheet is g seen Point
    point_sets Vertex = set_in s n sheet is g seen Vertex

    point_rows : (class : Class) → rows_changed s n (table_of sheet class) (change_of point_changes class) ≡ rows_of (reordered g Point perm.now) class
    point_rows Detail = same_rows Detail
    point_rows Prim = same_rows Prim ∙ sym (rows_of-renumbered (place_in perm.now) g.prims)
    point_rows Point = picked_rows Point perm
    point_rows Vertex = same_rows Vertex ∙ sym (vertex_rows_of-renumbered (place_in perm.now) g.prims)

    pub points_rebuilt : (shape : ShapeLists) → HasShape (reordered g Point perm.now) shape → IsRebuilt s n sheet point_changes shape (reordered g Point perm.now)
    points_rebuilt shape has = record {
      sets = point_sets;
      rows = point_rows;
      has = has;
      sound = leave_sound.reorder g Point perm.now (sound_in s n sheet is g seen) order;
      within = leave_within.reorder g Point perm.now (within_in s n sheet is g seen) order;
      values = leave_values_within.reorder g Point perm.now (values_in s n sheet is g seen) order;
    }

  -- primitives, and the vertices with them
  module _ (perm vertices : Bor (List ℕ)) (order : IsOrderOf (count_of g Prim) perm.now) (vertices_are : vertices.now ≡ vertices_with g.prims perm.now) where
    abbrev pub prim_changes : Changes
    prim_changes = record { detail = Longer 0; prim = Picked perm; point = Longer 0; vertex = Picked vertices }

    vertices_fit : Fits s n (table_of sheet Vertex) (Picked vertices)
    vertices_fit =
        let prims : length g.prims ≡ count_of g Prim = sym (length-map g.prims (λ p. p.row)) in
        let corners : length (corners_of g.prims) ≡ count_of g Vertex = sym (length-map (corners_of g.prims) (λ c. c.row)) in
        let below = vertices_below g.prims perm.now (subst (λ (k : ℕ). All (λ i. i < k) perm.now) (sym prims) (order_within (count_of g Prim) perm.now order)) in
        let within = subst (λ (k : ℕ). All (λ i. i < k) (vertices_with g.prims perm.now)) corners below in
        let moved = ap length (vertex_rows-reordered g perm.now order) ∙ length-map (vertices_with g.prims perm.now) (λ i. slice_index_or (rows_of g Vertex) i empty_row) in
        let many = count_of-reordered g Prim perm.now order Vertex in
        let long = ap length vertices_are in
        picks_fit Vertex vertices (subst (All (λ i. i < count_of g Vertex)) (sym vertices_are) within) (omega arith)

    pub prim_sources : IsHeld s (places_of sheet) → (class : Class) → IsSource s n (table_of sheet class) (change_of prim_changes class)
    prim_sources held Detail = source_of held Detail (Longer 0) (same_fits Detail)
    prim_sources held Prim = source_of held Prim (Picked perm) (order_fits Prim perm order)
    prim_sources held Point = source_of held Point (Longer 0) (same_fits Point)
    prim_sources held Vertex = source_of held Vertex (Picked vertices) vertices_fit

    prim_sets : (class : Class) → set_after (table_of sheet class).set (change_of prim_changes class) ≡ heads_of (reordered g Prim perm.now) class
    prim_sets Detail = set_in s n sheet is g seen Detail
    prim_sets Prim = set_in s n sheet is g seen Prim
    prim_sets Point = set_in s n sheet is g seen Point
    prim_sets Vertex = set_in s n sheet is g seen Vertex

    prim_rows : (class : Class) → rows_changed s n (table_of sheet class) (change_of prim_changes class) ≡ rows_of (reordered g Prim perm.now) class
    prim_rows Detail = same_rows Detail
    prim_rows Prim = picked_rows Prim perm ∙ sym (prims_of-reordered g perm.now order)
    prim_rows Point = same_rows Point
    prim_rows Vertex = picked_rows Vertex vertices ∙ ap (picked (rows_of g Vertex) empty_row) vertices_are ∙ sym (vertex_rows-reordered g perm.now order)

    pub prims_rebuilt : (shape : ShapeLists) → HasShape (reordered g Prim perm.now) shape → IsRebuilt s n sheet prim_changes shape (reordered g Prim perm.now)
    prims_rebuilt shape has = record {
      sets = prim_sets;
      rows = prim_rows;
      has = has;
      sound = leave_sound.reorder g Prim perm.now (sound_in s n sheet is g seen) order;
      within = leave_within.reorder g Prim perm.now (within_in s n sheet is g seen) order;
      values = leave_values_within.reorder g Prim perm.now (values_in s n sheet is g seen) order;
    }
