-- Other heads and rows of a class: what they leave of a geometry.
use Rattle.std.proofs.Common.{◌≡◌, ◌≢◌, suc, ◌≤◌, List, [], ◌∷◌, ◌++◌, length, map, take, drop, refl, ap, sym, ◌∙◌, arith}
use Rattle.std.proofs.lemmas.List.{length-append, length-map, length-drop, map-append, take-append-drop}
use Rattle.sop_model.specs.declared.class.Class.{Class}
use Rattle.sop_model.specs.declared.class.Class.TheVariants.{Detail, Prim, Point, Vertex}
use Rattle.sop_model.specs.declared.geo.Geo.{Geo}
use Rattle.sop_model.specs.declared.geo.Row.{Row}
use Rattle.sop_model.specs.declared.geo.HeadSet.{HeadSet}
use Rattle.sop_model.specs.declared.geo.Corner.{Corner}
use Rattle.sop_model.specs.declared.geo.Primitive.{Primitive}
use Rattle.sop_model.specs.Vertices.{size_of, corners_of}
use Rattle.sop_model.specs.Geometry.{heads_of, rows_of, count_of}
use Rattle.sop_model.specs.Rows.{first_row, prims_rows, corners_rows, vertices_rows, with_rows, with_heads, with_class}

-- PRIMITIVES WITH OTHER ROWS

pub rows_of-prims_rows : (prims : List Primitive) (rows : List Row) → length rows ≡ length prims → map (λ p. p.row) (prims_rows prims rows) ≡ rows
rows_of-prims_rows [] [] many = refl
rows_of-prims_rows [] (r ∷ rows) many = absurd (omega arith)
rows_of-prims_rows (p ∷ prims) [] many = absurd (omega arith)
rows_of-prims_rows (p ∷ prims) (r ∷ rows) many = ap (λ rest. r ∷ rest) (rows_of-prims_rows prims rows (omega arith))

-- whatever doesn't read the row of a primitive is the same
pub prims_rows_same : {X : Type 0} (f : Primitive → X) → ((p : Primitive) (r : Row) → f (record p { row = r }) ≡ f p) → (prims : List Primitive) (rows : List Row) → map f (prims_rows prims rows) ≡ map f prims
prims_rows_same f same [] rows = refl
prims_rows_same f same (p ∷ prims) [] = refl
prims_rows_same f same (p ∷ prims) (r ∷ rows) =
    let here = same p r in
    let rest = prims_rows_same f same prims rows in
    cc

pub corners_of-prims_rows : (prims : List Primitive) (rows : List Row) → corners_of (prims_rows prims rows) ≡ corners_of prims
corners_of-prims_rows [] rows = refl
corners_of-prims_rows (p ∷ prims) [] = refl
corners_of-prims_rows (p ∷ prims) (r ∷ rows) = ap (λ rest. p.corners ++ rest) (corners_of-prims_rows prims rows)

-- VERTICES WITH OTHER ROWS

rows_of-corners_rows : (corners : List Corner) (rows : List Row) → length corners ≤ length rows → map (λ c. c.row) (corners_rows corners rows) ≡ take (length corners) rows
rows_of-corners_rows [] rows many = refl
rows_of-corners_rows (c ∷ corners) [] many = absurd (omega arith)
rows_of-corners_rows (c ∷ corners) (r ∷ rows) many = ap (λ rest. r ∷ rest) (rows_of-corners_rows corners rows (omega arith))

points_of-corners_rows : (corners : List Corner) (rows : List Row) → map (λ c. c.point) (corners_rows corners rows) ≡ map (λ c. c.point) corners
points_of-corners_rows [] rows = refl
points_of-corners_rows (c ∷ corners) [] = refl
points_of-corners_rows (c ∷ corners) (r ∷ rows) = ap (λ rest. c.point ∷ rest) (points_of-corners_rows corners rows)

length-corners_rows : (corners : List Corner) (rows : List Row) → length (corners_rows corners rows) ≡ length corners
length-corners_rows [] rows = refl
length-corners_rows (c ∷ corners) [] = refl
length-corners_rows (c ∷ corners) (r ∷ rows) = ap suc (length-corners_rows corners rows)

pub rows_of-vertices_rows : (prims : List Primitive) (rows : List Row) → length rows ≡ length (corners_of prims) → map (λ c. c.row) (corners_of (vertices_rows prims rows)) ≡ rows
rows_of-vertices_rows [] [] many = refl
rows_of-vertices_rows [] (r ∷ rows) many = absurd (omega arith)
rows_of-vertices_rows (p ∷ prims) rows many =
    let both = length-append p.corners (corners_of prims) in
    let left = length-drop (size_of p) rows in
    map-append (λ c. c.row) (corners_rows p.corners rows) (corners_of (vertices_rows prims (drop (size_of p) rows)))
    ∙ ap (λ here. here ++ map (λ c. c.row) (corners_of (vertices_rows prims (drop (size_of p) rows)))) (rows_of-corners_rows p.corners rows (omega arith))
    ∙ ap (λ rest. take (size_of p) rows ++ rest) (rows_of-vertices_rows prims (drop (size_of p) rows) (omega arith))
    ∙ take-append-drop (size_of p) rows

points_of-vertices_rows : (prims : List Primitive) (rows : List Row) → map (λ c. c.point) (corners_of (vertices_rows prims rows)) ≡ map (λ c. c.point) (corners_of prims)
points_of-vertices_rows [] rows = refl
points_of-vertices_rows (p ∷ prims) rows =
    map-append (λ c. c.point) (corners_rows p.corners rows) (corners_of (vertices_rows prims (drop (size_of p) rows)))
    ∙ ap (λ here. here ++ map (λ c. c.point) (corners_of (vertices_rows prims (drop (size_of p) rows)))) (points_of-corners_rows p.corners rows)
    ∙ ap (λ rest. map (λ c. c.point) p.corners ++ rest) (points_of-vertices_rows prims (drop (size_of p) rows))
    ∙ sym (map-append (λ c. c.point) p.corners (corners_of prims))

-- whatever reads only the row and the size of a primitive and whether it is closed is the same
pub vertices_rows_same : {X : Type 0} (f : Primitive → X) → ((p : Primitive) (cs : List Corner) → length cs ≡ size_of p → f (record p { corners = cs }) ≡ f p) → (prims : List Primitive) (rows : List Row) → map f (vertices_rows prims rows) ≡ map f prims
vertices_rows_same f same [] rows = refl
vertices_rows_same f same (p ∷ prims) rows =
    let here = same p (corners_rows p.corners rows) (length-corners_rows p.corners rows) in
    let rest = vertices_rows_same f same prims (drop (size_of p) rows) in
    cc

-- THE SHAPE OF A GEOMETRY

-- as many points, and primitives that are closed, have so many vertices and refer to points alike
pub record HasShapeOf (g h : Geo) : Type 0 where
  pub points : length h.points ≡ length g.points
  pub closed : map (λ p. p.closed) h.prims ≡ map (λ p. p.closed) g.prims
  pub sizes : map size_of h.prims ≡ map size_of g.prims
  pub refers : map (λ c. c.point) (corners_of h.prims) ≡ map (λ c. c.point) (corners_of g.prims)

pub HasShapeOf-with_rows : (g : Geo) (class : Class) (rows : List Row) → length rows ≡ count_of g class → HasShapeOf g (with_rows g class rows)
HasShapeOf-with_rows g Detail rows many = record { points = refl; closed = refl; sizes = refl; refers = refl }
HasShapeOf-with_rows g Prim rows many = record {
  points = refl;
  closed = prims_rows_same (λ p. p.closed) (λ p r. refl) g.prims rows;
  sizes = prims_rows_same size_of (λ p r. refl) g.prims rows;
  refers = ap (map (λ c. c.point)) (corners_of-prims_rows g.prims rows);
}
HasShapeOf-with_rows g Point rows many = record { points = many; closed = refl; sizes = refl; refers = refl }
HasShapeOf-with_rows g Vertex rows many = record {
  points = refl;
  closed = vertices_rows_same (λ p. p.closed) (λ p cs e. refl) g.prims rows;
  sizes = vertices_rows_same size_of (λ p cs e. e) g.prims rows;
  refers = points_of-vertices_rows g.prims rows;
}

pub HasShapeOf-with_heads : (g : Geo) (class : Class) (set : HeadSet) → HasShapeOf g (with_heads g class set)
HasShapeOf-with_heads g Detail set = record { points = refl; closed = refl; sizes = refl; refers = refl }
HasShapeOf-with_heads g Prim set = record { points = refl; closed = refl; sizes = refl; refers = refl }
HasShapeOf-with_heads g Point set = record { points = refl; closed = refl; sizes = refl; refers = refl }
HasShapeOf-with_heads g Vertex set = record { points = refl; closed = refl; sizes = refl; refers = refl }

pub HasShapeOf-trans : (f g h : Geo) → HasShapeOf f g → HasShapeOf g h → HasShapeOf f h
HasShapeOf-trans f g h one two = record {
  points = two.points ∙ one.points;
  closed = two.closed ∙ one.closed;
  sizes = two.sizes ∙ one.sizes;
  refers = two.refers ∙ one.refers;
}

-- geometries of one shape have as many elements of each class
pub count_of-shape : (g h : Geo) → HasShapeOf g h → (class : Class) → count_of h class ≡ count_of g class
count_of-shape g h is Detail = refl
count_of-shape g h is Prim = length-map h.prims (λ p. p.row) ∙ sym (length-map h.prims size_of) ∙ ap length is.sizes ∙ length-map g.prims size_of ∙ sym (length-map g.prims (λ p. p.row))
count_of-shape g h is Point = is.points
count_of-shape g h is Vertex =
    length-map (corners_of h.prims) (λ c. c.row) ∙ sym (length-map (corners_of h.prims) (λ c. c.point)) ∙ ap length is.refers
    ∙ length-map (corners_of g.prims) (λ c. c.point) ∙ sym (length-map (corners_of g.prims) (λ c. c.row))

-- HEADS AND ROWS OF EACH CLASS

pub heads_of-with_rows : (g : Geo) (class : Class) (rows : List Row) (other : Class) → heads_of (with_rows g class rows) other ≡ heads_of g other
heads_of-with_rows g Detail rows Detail = refl
heads_of-with_rows g Detail rows Prim = refl
heads_of-with_rows g Detail rows Point = refl
heads_of-with_rows g Detail rows Vertex = refl
heads_of-with_rows g Prim rows Detail = refl
heads_of-with_rows g Prim rows Prim = refl
heads_of-with_rows g Prim rows Point = refl
heads_of-with_rows g Prim rows Vertex = refl
heads_of-with_rows g Point rows Detail = refl
heads_of-with_rows g Point rows Prim = refl
heads_of-with_rows g Point rows Point = refl
heads_of-with_rows g Point rows Vertex = refl
heads_of-with_rows g Vertex rows Detail = refl
heads_of-with_rows g Vertex rows Prim = refl
heads_of-with_rows g Vertex rows Point = refl
heads_of-with_rows g Vertex rows Vertex = refl

pub rows_of-with_heads : (g : Geo) (class : Class) (set : HeadSet) (other : Class) → rows_of (with_heads g class set) other ≡ rows_of g other
rows_of-with_heads g Detail set Detail = refl
rows_of-with_heads g Detail set Prim = refl
rows_of-with_heads g Detail set Point = refl
rows_of-with_heads g Detail set Vertex = refl
rows_of-with_heads g Prim set Detail = refl
rows_of-with_heads g Prim set Prim = refl
rows_of-with_heads g Prim set Point = refl
rows_of-with_heads g Prim set Vertex = refl
rows_of-with_heads g Point set Detail = refl
rows_of-with_heads g Point set Prim = refl
rows_of-with_heads g Point set Point = refl
rows_of-with_heads g Point set Vertex = refl
rows_of-with_heads g Vertex set Detail = refl
rows_of-with_heads g Vertex set Prim = refl
rows_of-with_heads g Vertex set Point = refl
rows_of-with_heads g Vertex set Vertex = refl

pub heads_of-with_heads : (g : Geo) (class : Class) (set : HeadSet) → heads_of (with_heads g class set) class ≡ set
heads_of-with_heads g Detail set = refl
heads_of-with_heads g Prim set = refl
heads_of-with_heads g Point set = refl
heads_of-with_heads g Vertex set = refl

one_row : (rows : List Row) (row : Row) → length rows ≡ 1 → first_row rows row ∷ [] ≡ rows
one_row [] row many = absurd (omega arith)
one_row (r ∷ []) row many = refl
one_row (r ∷ s ∷ rows) row many = absurd (omega arith)

pub rows_of-with_rows : (g : Geo) (class : Class) (rows : List Row) → length rows ≡ count_of g class → rows_of (with_rows g class rows) class ≡ rows
rows_of-with_rows g Detail rows many = one_row rows g.detail_row many
rows_of-with_rows g Prim rows many = rows_of-prims_rows g.prims rows (many ∙ length-map g.prims (λ p. p.row))
rows_of-with_rows g Point rows many = refl
rows_of-with_rows g Vertex rows many = rows_of-vertices_rows g.prims rows (many ∙ length-map (corners_of g.prims) (λ c. c.row))

-- what is said of a class and of each other, said of all
pub each_class : (P : Class → Type 0) (class : Class) → P class → ((other : Class) → other ≢ class → P other) → (c : Class) → P c
each_class P Detail here others Detail = here
each_class P Detail here others Prim = others Prim (λ e. cc)
each_class P Detail here others Point = others Point (λ e. cc)
each_class P Detail here others Vertex = others Vertex (λ e. cc)
each_class P Prim here others Detail = others Detail (λ e. cc)
each_class P Prim here others Prim = here
each_class P Prim here others Point = others Point (λ e. cc)
each_class P Prim here others Vertex = others Vertex (λ e. cc)
each_class P Point here others Detail = others Detail (λ e. cc)
each_class P Point here others Prim = others Prim (λ e. cc)
each_class P Point here others Point = here
each_class P Point here others Vertex = others Vertex (λ e. cc)
each_class P Vertex here others Detail = others Detail (λ e. cc)
each_class P Vertex here others Prim = others Prim (λ e. cc)
each_class P Vertex here others Point = others Point (λ e. cc)
each_class P Vertex here others Vertex = here

pub heads_of-with_heads_other : (g : Geo) (class : Class) (set : HeadSet) (other : Class) → other ≢ class → heads_of (with_heads g class set) other ≡ heads_of g other
heads_of-with_heads_other g Detail set Detail ne = absurd (ne refl)
heads_of-with_heads_other g Detail set Prim ne = refl
heads_of-with_heads_other g Detail set Point ne = refl
heads_of-with_heads_other g Detail set Vertex ne = refl
heads_of-with_heads_other g Prim set Detail ne = refl
heads_of-with_heads_other g Prim set Prim ne = absurd (ne refl)
heads_of-with_heads_other g Prim set Point ne = refl
heads_of-with_heads_other g Prim set Vertex ne = refl
heads_of-with_heads_other g Point set Detail ne = refl
heads_of-with_heads_other g Point set Prim ne = refl
heads_of-with_heads_other g Point set Point ne = absurd (ne refl)
heads_of-with_heads_other g Point set Vertex ne = refl
heads_of-with_heads_other g Vertex set Detail ne = refl
heads_of-with_heads_other g Vertex set Prim ne = refl
heads_of-with_heads_other g Vertex set Point ne = refl
heads_of-with_heads_other g Vertex set Vertex ne = absurd (ne refl)

pub rows_of-with_rows_other : (g : Geo) (class : Class) (rows : List Row) (other : Class) → other ≢ class → rows_of (with_rows g class rows) other ≡ rows_of g other
rows_of-with_rows_other g Detail rows Detail ne = absurd (ne refl)
rows_of-with_rows_other g Detail rows Prim ne = refl
rows_of-with_rows_other g Detail rows Point ne = refl
rows_of-with_rows_other g Detail rows Vertex ne = refl
rows_of-with_rows_other g Prim rows Detail ne = refl
rows_of-with_rows_other g Prim rows Prim ne = absurd (ne refl)
rows_of-with_rows_other g Prim rows Point ne = refl
rows_of-with_rows_other g Prim rows Vertex ne = ap (map (λ c. c.row)) (corners_of-prims_rows g.prims rows)
rows_of-with_rows_other g Point rows Detail ne = refl
rows_of-with_rows_other g Point rows Prim ne = refl
rows_of-with_rows_other g Point rows Point ne = absurd (ne refl)
rows_of-with_rows_other g Point rows Vertex ne = refl
rows_of-with_rows_other g Vertex rows Detail ne = refl
rows_of-with_rows_other g Vertex rows Prim ne = vertices_rows_same (λ p. p.row) (λ p cs e. refl) g.prims rows
rows_of-with_rows_other g Vertex rows Point ne = refl
rows_of-with_rows_other g Vertex rows Vertex ne = absurd (ne refl)

-- THE GEOMETRY WITH OTHER HEADS AND ROWS OF A CLASS

module _ (g : Geo) (class : Class) (set : HeadSet) (rows : List Row) where
  pub heads_of-with_class : heads_of (with_class g class set rows) class ≡ set
  heads_of-with_class = heads_of-with_heads (with_rows g class rows) class set

  pub heads_of-with_class_other : (other : Class) → other ≢ class → heads_of (with_class g class set rows) other ≡ heads_of g other
  heads_of-with_class_other other ne = heads_of-with_heads_other (with_rows g class rows) class set other ne ∙ heads_of-with_rows g class rows other

  pub rows_of-with_class : length rows ≡ count_of g class → rows_of (with_class g class set rows) class ≡ rows
  rows_of-with_class many = rows_of-with_heads (with_rows g class rows) class set class ∙ rows_of-with_rows g class rows many

  pub rows_of-with_class_other : (other : Class) → other ≢ class → rows_of (with_class g class set rows) other ≡ rows_of g other
  rows_of-with_class_other other ne = rows_of-with_heads (with_rows g class rows) class set other ∙ rows_of-with_rows_other g class rows other ne

  pub HasShapeOf-with_class : length rows ≡ count_of g class → HasShapeOf g (with_class g class set rows)
  HasShapeOf-with_class many = HasShapeOf-trans g (with_rows g class rows) (with_class g class set rows) (HasShapeOf-with_rows g class rows many) (HasShapeOf-with_heads (with_rows g class rows) class set)
