-- Primitives and vertices added: what stands in the tables and in the shape then, and which geometry that is.
use Rattle.std.proofs.Common.{◌≡◌, ◌≢◌, ℕ, suc, ◌+◌, ◌<◌, ◌≤◌, Bool, List, [], ◌∷◌, ◌++◌, length, replicate, refl, ap, sym, ◌∙◌, subst, arith, inl, inr}
use Rattle.std.specs.Prelude.{◌⊎◌, All, slice_index_or, Result, Ok, Err, IfOk, OnErr}
use Rattle.std.proofs.lemmas.List.{append-nil, length-map, length-append, length-replicate, get_or_past}
use Rattle.std.proofs.lemmas.List.Elements.{All-map, All-weaker, All-replicate}
use Rattle.sop_model.specs.declared.class.Class.{Class}
use Rattle.sop_model.specs.declared.class.Class.TheVariants.{Detail, Prim, Point, Vertex}
use Rattle.sop_model.specs.declared.geo.Geo.{Geo}
use Rattle.sop_model.specs.declared.geo.Row.{Row}
use Rattle.sop_model.specs.declared.geo.Corner.{Corner}
use Rattle.sop_model.specs.declared.geo.Primitive.{Primitive}
use Rattle.sop_model.specs.Limits.{most_prims, most_vertices}
use Rattle.sop_model.specs.Vertices.{corners_of}
use Rattle.sop_model.specs.Geometry.{empty_row, only_position, heads_of, rows_of, count_of, IsSound, IsWithin, AreValuesWithin}
use Rattle.sop_model.specs.Rows.{default_row, picked, with_class, prim_added, corners_added, vertices_added, ArePoints, ArePlaces}
use Rattle.sop_model.proofs.RowLists.{All-under_map}
use Rattle.sop_rows.proofs.ClassRows.{HasShapeOf-with_class, rows_of-with_class}
use Rattle.sop_rows.proofs.ElementOps.{heads_of-prim_added}
use Rattle.sop_rows.proofs.VertexOps.{rows_of-vertices_added, vertices_of-vertices_added, All-vertices_added}
use Rattle.sop_rows.proofs.PartLemmas.{prim_rows-prim_added, vertex_rows-prim_added}
use Rattle.sop_rows.proofs.LawLemmas.{leave_sound, leave_within, leave_values_within}
use Rattle.sop_shape.specs.Shapes.{ShapeLists, HasShape}
use Rattle.sop_pages.specs.Moves.{Covers}
use Rattle.sop_cells.specs.declared.place.Place.{Place}
use Rattle.sop_cells.specs.Places.{own}
use Rattle.sop_cells.specs.Shelves.{ShelfPages, Shifts}
use Rattle.sop_cells.proofs.CutLemmas.{le_or}
use Rattle.sop_cells.proofs.PlaceLemmas.{stays}
use Rattle.sop_columns.specs.Names.{NameTable, Grows}
use Rattle.sop_columns.proofs.NameLemmas.{grows_none, grows_then}
use Rattle.sop_tables.specs.Tables.{TableLists, places_in, rows, IsTable, IsHeld, IsTableStep, IsTableMade, IsNoStep}
use Rattle.sop_tables.specs.Changes.{set_after, rows_changed, IsSource}
use Rattle.sop_tables.specs.declared.changed.Change.TheVariants.{Longer}
use Rattle.sop_tables.proofs.KeptLemmas.{frame}
use Rattle.sop_tables.proofs.MadeLemmas.{still_held, undone, before_none}
use Rattle.sop_tables.proofs.StepLemmas.{made_held}
use Rattle.sop_sheets.specs.Sheets.{SheetLists, table_of, places_of, geo_of, Stands, IsSheet, Becomes}
use Rattle.sop_sheets.proofs.SheetLemmas.{same_shape, in_sheet, in_two, with_table_times}
use Rattle.sop_sheets.specs.Remade.{change_of, IsRemade}
use Rattle.sop_sheets.specs.declared.remade.Changes.{Changes}
use Rattle.sop_sheets.proofs.ViewLemmas.{set_in, rows_in, count_in, table_in, prims_in, vertices_in, sound_in, within_in, values_in}
use Rattle.sop_sheets.proofs.RemadeLemmas.{remade_becomes}
use Rattle.sop_sheets.proofs.MadeLemmas.{made_sheet}
use Rattle.sop_sheets.proofs.GrowLemmas.{swap_table}

-- a sheet whose tables and shape are those of a geometry, after a step
becomes_whole : (s t : ShelfPages) (n m : NameTable) (sheet new : SheetLists) (g : Geo) → Shifts s t (places_of sheet) (places_of new) → Grows n m → ((class : Class) → IsTable t m (table_of new class))
    → Stands t m new g → IsSound g → IsWithin g → AreValuesWithin g → Becomes s t n m sheet new g
becomes_whole s t n m sheet new g shifts grows tables stands sound within values =
    let made = made_sheet t m new g tables stands sound within values in
    record { step = record { shifts = shifts; grows = grows; sheet = made.0 }; geo = made.1 }

-- as many primitives and vertices as the shape has
module _ (s : ShelfPages) (n : NameTable) (sheet : SheetLists) (is : IsSheet s n sheet) (g : Geo) (seen : geo_of s n sheet ≡ g) where
  pub prims_many : length sheet.shape.closed ≡ count_of g Prim
  prims_many = prims_in s n sheet is g seen ∙ sym (length-map g.prims (λ p. p.row))

  pub vertices_many : length sheet.shape.refers ≡ count_of g Vertex
  vertices_many = vertices_in s n sheet is g seen ∙ sym (length-map (corners_of g.prims) (λ c. c.row))

-- A PRIMITIVE

-- how many elements of each class come with a primitive of so many vertices
abbrev pub more_in : ℕ → Class → ℕ
more_in vertices Detail = 0
more_in vertices Prim = 1
more_in vertices Point = 0
more_in vertices Vertex = vertices

abbrev pub prim_changes : ℕ → Changes
prim_changes vertices = record { detail = Longer 0; prim = Longer 1; point = Longer 0; vertex = Longer vertices }

-- a table with so many more elements, on the same pages
pub record TakesCells (s : ShelfPages) (n : NameTable) (old new : TableLists) (more : ℕ) : Type 0 where
  pub set : new.set ≡ old.set
  pub places : places_in new ≡ places_in old
  pub table : IsTable s n new
  pub rows : rows s n new ≡ rows s n old ++ replicate more (default_row old.set)

pub none_taken : (s : ShelfPages) (n : NameTable) (tb : TableLists) → IsTable s n tb → TakesCells s n tb tb 0
none_taken s n tb is = record { set = refl; places = refl; table = is; rows = sym (append-nil (rows s n tb)) }

module _ (s : ShelfPages) (n : NameTable) (sheet : SheetLists) (is : IsSheet s n sheet) (g : Geo) (seen : geo_of s n sheet ≡ g) (closed : Bool) (points : List ℕ) where
  abbrev longer : Geo
  longer = prim_added g closed points

  pub prim_heads : (class : Class) → (table_of sheet class).set ≡ heads_of longer class
  prim_heads class = set_in s n sheet is g seen class ∙ sym (heads_of-prim_added g closed points class)

  pub prim_rows : (class : Class) → rows s n (table_of sheet class) ++ replicate (more_in (length points) class) (default_row (table_of sheet class).set) ≡ rows_of longer class
  prim_rows Detail = append-nil (rows s n sheet.detail) ∙ rows_in s n sheet is g seen Detail
  prim_rows Prim =
      let were = rows_in s n sheet is g seen Prim in
      let heads = set_in s n sheet is g seen Prim in
      (λ j. were j ++ default_row (heads j) ∷ []) ∙ sym (prim_rows-prim_added g closed points)
  prim_rows Point = append-nil (rows s n sheet.point) ∙ rows_in s n sheet is g seen Point
  prim_rows Vertex =
      let were = rows_in s n sheet is g seen Vertex in
      let heads = set_in s n sheet is g seen Vertex in
      (λ j. were j ++ replicate (length points) (default_row (heads j))) ∙ sym (vertex_rows-prim_added g closed points)

  -- in tables beside these: each is one of which a longer one can be made, and what that one has
  pub prim_sources : IsHeld s (places_of sheet) → count_of g Prim < most_prims → count_of g Vertex + length points ≤ most_vertices → (class : Class) → IsSource s n (table_of sheet class) (change_of (prim_changes (length points)) class)
  prim_sources held few few_vertices Detail = record { table = is.tables Detail; held = table_in s n sheet is g seen held Detail; fits = let most = (is.tables Detail).most in omega arith }
  prim_sources held few few_vertices Prim = record { table = is.tables Prim; held = table_in s n sheet is g seen held Prim; fits = let many = count_in s n sheet is g seen Prim in omega arith }
  prim_sources held few few_vertices Point = record { table = is.tables Point; held = table_in s n sheet is g seen held Point; fits = let most = (is.tables Point).most in omega arith }
  prim_sources held few few_vertices Vertex = record { table = is.tables Vertex; held = table_in s n sheet is g seen held Vertex; fits = let many = count_in s n sheet is g seen Vertex in omega arith }

  remade_heads : (class : Class) → set_after (table_of sheet class).set (change_of (prim_changes (length points)) class) ≡ heads_of longer class
  remade_heads Detail = prim_heads Detail
  remade_heads Prim = prim_heads Prim
  remade_heads Point = prim_heads Point
  remade_heads Vertex = prim_heads Vertex

  remade_rows : (class : Class) → rows_changed s n (table_of sheet class) (change_of (prim_changes (length points)) class) ≡ rows_of longer class
  remade_rows Detail = prim_rows Detail
  remade_rows Prim = prim_rows Prim
  remade_rows Point = prim_rows Point
  remade_rows Vertex = prim_rows Vertex

  -- the conditions of a primitive, and what it leaves
  module _ (are : ArePoints g points) (few : count_of g Prim < most_prims) (few_vertices : count_of g Vertex + length points ≤ most_vertices) where
    pub prim_sound : IsSound longer
    prim_sound = leave_sound.add_prim g closed points (sound_in s n sheet is g seen) are

    pub prim_fits : IsWithin longer
    prim_fits = (leave_within.add_prim g closed points (within_in s n sheet is g seen)).1 (few, few_vertices)

    pub prim_values : AreValuesWithin longer
    prim_values = leave_values_within.add_prim g closed points (values_in s n sheet is g seen)

    -- in spare cells
    pub prim_within : (new : SheetLists) → ((class : Class) → TakesCells s n (table_of sheet class) (table_of new class) (more_in (length points) class)) → HasShape longer new.shape
        → Becomes s s n n sheet new longer
    prim_within new each has =
        let d = (each Detail).places in
        let p = (each Prim).places in
        let o = (each Point).places in
        let v = (each Vertex).places in
        let places : places_of new ≡ places_of sheet = λ j. d j ++ (p j ++ (o j ++ v j)) in
        becomes_whole s s n n sheet new longer (subst (Shifts s s (places_of sheet)) (sym places) (stays s s (places_of sheet) refl)) (grows_none n) (λ class. (each class).table)
        (record { sets = λ class. (each class).set ∙ prim_heads class; rows = λ class. (each class).rows ∙ prim_rows class; shape = has }) prim_sound prim_fits prim_values

    -- in tables that were made beside these
    pub prim_beside : (a t : ShelfPages) (m : NameTable) (made : SheetLists) (shape : ShapeLists) → IsHeld s (places_of sheet) → IsRemade s a n m sheet (prim_changes (length points)) made → Shifts a t (places_of sheet) []
        → HasShape longer shape → Becomes s t n m sheet (record made { shape = shape }) longer
    prim_beside a t m made shape held remade gone has =
        remade_becomes s a t n m sheet (prim_changes (length points)) made held remade gone longer shape remade_heads remade_rows has prim_sound prim_fits prim_values

-- A TABLE MADE OF ONE THAT GOES

-- what came goes, and other places come
passed_on : (s a t : ShelfPages) (middle come : List Place) → Shifts s a [] middle → Shifts a t middle come → Shifts s t [] come
passed_on s a t middle come p q = record {
  base = q.base ∙ p.base;
  moves = record {
    counts = λ id. let a = p.moves.counts id in let b = q.moves.counts id in omega arith;
    kept = λ id h. q.moves.kept id (let a = p.moves.counts id in omega arith) ∙ p.moves.kept id h;
  };
}

module _ (s a b : ShelfPages) (n m k : NameTable) (first : TableLists) (one : IsTableMade s a n m first) where
  pub middle_held : IsHeld a (places_in first)
  middle_held = made_held s a n m first one

  pub middle_goes : {E : Type 0} (r : Result TableLists E) → IfOk r (IsTableMade a b m k) → OnErr r (IsNoStep a b m k) → IsHeld b (places_in first)
  middle_goes (Ok last) made still = still_held a b (places_in last) (places_in first) made.shifts middle_held
  middle_goes (Err e) made still = still_held a b [] (places_in first) still.shifts middle_held

  module _ (t : ShelfPages) (gone : Shifts b t (places_in first) []) where
    pub passed_made : {E : Type 0} (r : Result TableLists E) → IfOk r (IsTableMade a b m k) → IfOk r (IsTableMade s t n k)
    passed_made (Ok last) made =
        let step = (swap_table a b t m k first last middle_held made gone).0 in
        record { shifts = passed_on s a t (places_in first) (places_in last) one.shifts step.shifts; grows = grows_then n m k one.grows made.grows; table = step.table }
    passed_made (Err e) made = tt

    pub passed_rows : {E : Type 0} (numbers : List ℕ) (were : List Row) (r : Result TableLists E) → IfOk r (IsTableMade a b m k) → IfOk r (λ last. rows b k last ≡ picked (rows a m first) empty_row numbers)
        → rows a m first ≡ were → IfOk r (λ last. rows t k last ≡ picked were empty_row numbers)
    passed_rows numbers were (Ok last) made row same = (swap_table a b t m k first last middle_held made gone).1 ∙ row ∙ ap (λ (rs : List Row). picked rs empty_row numbers) same
    passed_rows numbers were (Err e) made row same = tt

    pub passed_err : {E : Type 0} (r : Result TableLists E) → OnErr r (IsNoStep a b m k) → OnErr r (IsNoStep s t n k)
    passed_err (Ok last) still = tt
    passed_err (Err e) still = record { shifts = undone s b t (places_in first) (before_none s a b (places_in first) one.shifts still.shifts) gone; grows = grows_then n m k one.grows still.grows }

-- VERTICES

-- the numbers of the vertices are those of the old ones, and one more: else some vertex would have an empty row, whatever the rows are
module _ (g : Geo) (shape : ShapeLists) (has : HasShape g shape) (adds : List (ℕ × ℕ)) (numbers : List ℕ)
    (told : (h : Geo) → HasShape h shape → rows_of (vertices_added h adds) Vertex ≡ picked (rows_of h Vertex ++ default_row h.vertex ∷ []) empty_row numbers) where
  abbrev mark : Row
  mark = default_row only_position

  abbrev marks : List Row
  marks = replicate (count_of g Vertex) mark

  -- a geometry of the same shape, where no vertex has an empty row
  abbrev marked : Geo
  marked = with_class g Vertex only_position marks

  marks_many : length marks ≡ count_of g Vertex
  marks_many = length-replicate (count_of g Vertex) mark

  marked_rows : rows_of marked Vertex ≡ marks
  marked_rows = rows_of-with_class g Vertex only_position marks marks_many

  marked_shape : HasShape marked shape
  marked_shape = same_shape g marked (HasShapeOf-with_class g Vertex only_position marks marks_many) ∙ has

  abbrev IsMark : Row → Type 0
  IsMark row = row ≡ mark

  all_marked : All IsMark (rows_of (vertices_added marked adds) Vertex)
  all_marked =
      All-map IsMark (λ (c : Corner). c.row) (corners_of (vertices_added marked adds).prims)
      (All-vertices_added marked adds (λ c. IsMark c.row) (λ point. refl)
      (All-under_map IsMark (λ (c : Corner). c.row) (corners_of marked.prims) (subst (All IsMark) (sym marked_rows) (All-replicate IsMark (count_of g Vertex) mark refl))))

  abbrev choice : List Row
  choice = rows_of marked Vertex ++ default_row marked.vertex ∷ []

  choice_many : length choice ≡ count_of g Vertex + 1
  choice_many = length-append (rows_of marked Vertex) (default_row marked.vertex ∷ []) ∙ ap (λ (k : ℕ). k + 1) (ap length marked_rows ∙ marks_many)

  no_mark : IsMark empty_row → ⊥
  no_mark is = apart (length empty_row.values) refl (ap (λ (r : Row). length r.values) is)
    where
      apart : (k : ℕ) → k ≡ 0 → k ≡ 1 → ⊥
      apart k none one = omega arith

  inside : (i : ℕ) → IsMark (slice_index_or choice i empty_row) → i < count_of g Vertex + 1
  inside i is = by (le_or (count_of g Vertex + 1) i)
    where
      by : (count_of g Vertex + 1 ≤ i) ⊎ (i < count_of g Vertex + 1) → i < count_of g Vertex + 1
      by (inl past) = absurd (no_mark (sym (get_or_past choice i empty_row (let many = choice_many in omega arith)) ∙ is))
      by (inr less) = less

  pub numbers_within : All (λ i. i < count_of g Vertex + 1) numbers
  numbers_within =
      All-weaker (λ i. IsMark (slice_index_or choice i empty_row)) (λ i. i < count_of g Vertex + 1) inside numbers
      (All-under_map IsMark (λ (i : ℕ). slice_index_or choice i empty_row) numbers (subst (All IsMark) (told marked marked_shape) all_marked))

  pub numbers_many : ArePlaces g adds → length numbers ≡ count_of g Vertex + length adds
  numbers_many are =
      sym (length-map numbers (λ i. slice_index_or (rows_of g Vertex ++ default_row g.vertex ∷ []) i empty_row)) ∙ sym (ap length (told g has)) ∙ vertices_of-vertices_added g adds are

-- a list without items
pub nil_by : {X : Type 0} (xs : List X) → length xs ≡ 0 → xs ≡ []
nil_by [] none = refl
nil_by (x ∷ xs) none = absurd (omega arith)

-- the rows of the other classes stay
rows_beside : (g : Geo) (adds : List (ℕ × ℕ)) (other : Class) → other ≢ Vertex → rows_of (vertices_added g adds) other ≡ rows_of g other
rows_beside g adds Detail ne = refl
rows_beside g adds Prim ne = rows_of-vertices_added g adds
rows_beside g adds Point ne = refl
rows_beside g adds Vertex ne = absurd (ne refl)

module _ (s : ShelfPages) (n : NameTable) (sheet : SheetLists) (is : IsSheet s n sheet) (g : Geo) (seen : geo_of s n sheet ≡ g) where
  -- nothing is added
  pub none_becomes : Becomes s s n n sheet sheet (vertices_added g [])
  none_becomes =
      let none : vertices_added g [] ≡ g = (λ j. record g { prims = as_they_are 0 g.prims j }) in
      record { step = record { shifts = stays s s (places_of sheet) refl; grows = grows_none n; sheet = is }; geo = seen ∙ sym none }
    where
      as_they_are : (k : ℕ) (prims : List Primitive) → corners_added g [] k prims ≡ prims
      as_they_are k [] = refl
      as_they_are k (p ∷ prims) =
          let here = append-nil p.corners in
          let rest = as_they_are (suc k) prims in
          λ j. record p { corners = here j } ∷ rest j

  module _ (adds : List (ℕ × ℕ)) (are : ArePlaces g adds) (few : count_of g Vertex + length adds ≤ most_vertices) where
    abbrev more : Geo
    more = vertices_added g adds

    module _ (t : ShelfPages) (m : NameTable) (v : TableLists) (shape : ShapeLists) (covered : Covers s.own (own (places_of sheet))) (step : IsTableStep s t n m sheet.vertex v) (set : v.set ≡ sheet.vertex.set)
        (row : rows t m v ≡ rows_of more Vertex) (has : HasShape more shape) where
      abbrev new : SheetLists
      new = record sheet { vertex = v; shape = shape }

      new_shifts : Shifts s t (places_of sheet) (places_of new)
      new_shifts = record {
        base = step.shifts.base;
        moves = record {
          counts = λ id. let a = with_table_times id sheet Vertex v in let b = step.shifts.moves.counts id in omega arith;
          kept = λ id less. step.shifts.moves.kept id (let a = in_sheet id sheet Vertex in omega arith);
        };
      }

      kept : (other : Class) → other ≢ Vertex → IsTable t m (table_of sheet other) × (rows t m (table_of sheet other) ≡ rows s n (table_of sheet other))
      kept other ne =
          frame s t n m (places_in sheet.vertex) (places_in v) step.shifts step.grows (table_of sheet other)
          (λ id h. let a = in_two id sheet Vertex other ne in let b = covered.each id in omega arith) (is.tables other)

      new_tables : (class : Class) → IsTable t m (table_of new class)
      new_tables Detail = (kept Detail (λ e. cc)).0
      new_tables Prim = (kept Prim (λ e. cc)).0
      new_tables Point = (kept Point (λ e. cc)).0
      new_tables Vertex = step.table

      new_sets : (class : Class) → (table_of new class).set ≡ heads_of more class
      new_sets Detail = set_in s n sheet is g seen Detail
      new_sets Prim = set_in s n sheet is g seen Prim
      new_sets Point = set_in s n sheet is g seen Point
      new_sets Vertex = set ∙ set_in s n sheet is g seen Vertex

      still : (other : Class) (ne : other ≢ Vertex) → rows t m (table_of sheet other) ≡ rows_of more other
      still other ne = (kept other ne).1 ∙ rows_in s n sheet is g seen other ∙ sym (rows_beside g adds other ne)

      new_rows : (class : Class) → rows t m (table_of new class) ≡ rows_of more class
      new_rows Detail = still Detail (λ e. cc)
      new_rows Prim = still Prim (λ e. cc)
      new_rows Point = still Point (λ e. cc)
      new_rows Vertex = row

      pub vertices_becomes : Becomes s t n m sheet new more
      vertices_becomes =
          becomes_whole s t n m sheet new more new_shifts step.grows new_tables (record { sets = new_sets; rows = new_rows; shape = has }) (leave_sound.add_vertices g adds (sound_in s n sheet is g seen) are)
          ((leave_within.add_vertices g adds (within_in s n sheet is g seen) are).1 few) (leave_values_within.add_vertices g adds (values_in s n sheet is g seen))
