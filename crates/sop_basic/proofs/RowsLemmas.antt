-- Other rows of a class, twice, and its own rows again.
use Rattle.std.proofs.Common.{◌≡◌, ◌≤◌, List, [], ◌∷◌, ◌++◌, length, map, drop, refl, ap, ◌∙◌, arith, length-append, length-drop}
use Rattle.std.proofs.lemmas.List.{length-map, map-append}
use Rattle.sop_model.specs.declared.class.Class.{Class}
use Rattle.sop_model.specs.declared.class.Class.TheVariants.{Detail, Prim, Point, Vertex}
use Rattle.sop_model.specs.declared.geo.Geo.{Geo}
use Rattle.sop_model.specs.declared.geo.Row.{Row}
use Rattle.sop_model.specs.declared.geo.Corner.{Corner}
use Rattle.sop_model.specs.declared.geo.Primitive.{Primitive}
use Rattle.sop_model.specs.Vertices.{size_of, corners_of}
use Rattle.sop_model.specs.Geometry.{rows_of, count_of}
use Rattle.sop_model.specs.Rows.{first_row, prims_rows, corners_rows, vertices_rows, with_rows}

prims_twice : (prims : List Primitive) (a b : List Row) → length b ≡ length prims → prims_rows (prims_rows prims a) b ≡ prims_rows prims b
prims_twice [] a b many = refl
prims_twice (p ∷ prims) [] b many = refl
prims_twice (p ∷ prims) (x ∷ a) [] many = absurd (omega arith)
prims_twice (p ∷ prims) (x ∷ a) (y ∷ b) many = ap (λ ps. record p { row = y } ∷ ps) (prims_twice prims a b (omega arith))

corners_twice : (corners : List Corner) (a b : List Row) → length corners ≤ length b → corners_rows (corners_rows corners a) b ≡ corners_rows corners b
corners_twice [] a b many = refl
corners_twice (c ∷ corners) [] b many = refl
corners_twice (c ∷ corners) (x ∷ a) [] many = absurd (omega arith)
corners_twice (c ∷ corners) (x ∷ a) (y ∷ b) many = ap (λ cs. record c { row = y } ∷ cs) (corners_twice corners a b (omega arith))

corners_long : (corners : List Corner) (a : List Row) → length (corners_rows corners a) ≡ length corners
corners_long [] a = refl
corners_long (c ∷ corners) [] = refl
corners_long (c ∷ corners) (x ∷ a) = let rest = corners_long corners a in omega arith

vertices_twice : (prims : List Primitive) (a b : List Row) → length b ≡ length (corners_of prims) → vertices_rows (vertices_rows prims a) b ≡ vertices_rows prims b
vertices_twice [] a b many = refl
vertices_twice (p ∷ prims) a b many =
    let all = length-append p.corners (corners_of prims) in
    let left = length-drop (size_of p) b in
    let here = corners_twice p.corners a b (omega (arith, many, all)) in
    let rest = vertices_twice prims (drop (size_of p) a) (drop (size_of p) b) (omega (arith, many, all, left)) in
    ap (λ cs. record p { corners = cs } ∷ vertices_rows (vertices_rows prims (drop (size_of p) a)) (drop (length (corners_rows p.corners a)) b)) here
    ∙ ap (λ n. record p { corners = corners_rows p.corners b } ∷ vertices_rows (vertices_rows prims (drop (size_of p) a)) (drop n b)) (corners_long p.corners a)
    ∙ ap (λ ps. record p { corners = corners_rows p.corners b } ∷ ps) rest

detail_twice : (row : Row) (a b : List Row) → length b ≡ 1 → first_row b (first_row a row) ≡ first_row b row
detail_twice row a [] many = absurd (omega arith)
detail_twice row a (r ∷ b) many = refl

pub with_rows_twice : (g : Geo) (class : Class) (a b : List Row) → length b ≡ count_of g class → with_rows (with_rows g class a) class b ≡ with_rows g class b
with_rows_twice g Detail a b many = ap (λ (row : Row). record g { detail_row = row }) (detail_twice g.detail_row a b many)
with_rows_twice g Prim a b many = ap (λ (ps : List Primitive). record g { prims = ps }) (prims_twice g.prims a b (many ∙ length-map g.prims (λ p. p.row)))
with_rows_twice g Point a b many = refl
with_rows_twice g Vertex a b many = ap (λ (ps : List Primitive). record g { prims = ps }) (vertices_twice g.prims a b (many ∙ length-map (corners_of g.prims) (λ c. c.row)))

-- the own rows again
prims_own : (prims : List Primitive) → prims_rows prims (map (λ p. p.row) prims) ≡ prims
prims_own [] = refl
prims_own (p ∷ prims) = ap (λ ps. p ∷ ps) (prims_own prims)

corners_own : (corners : List Corner) (more : List Row) → corners_rows corners (map (λ c. c.row) corners ++ more) ≡ corners
corners_own [] [] = refl
corners_own [] (r ∷ more) = refl
corners_own (c ∷ corners) more = ap (λ cs. c ∷ cs) (corners_own corners more)

drop_own : (corners : List Corner) (more : List Row) → drop (length corners) (map (λ c. c.row) corners ++ more) ≡ more
drop_own [] more = refl
drop_own (c ∷ corners) more = drop_own corners more

vertices_own : (prims : List Primitive) → vertices_rows prims (map (λ c. c.row) (corners_of prims)) ≡ prims
vertices_own [] = refl
vertices_own (p ∷ prims) =
    let rows = map (λ (c : Corner). c.row) (corners_of prims) in
    let split = map-append (λ (c : Corner). c.row) p.corners (corners_of prims) in
    ap (λ rs. record p { corners = corners_rows p.corners rs } ∷ vertices_rows prims (drop (size_of p) rs)) split
    ∙ ap (λ cs. record p { corners = cs } ∷ vertices_rows prims (drop (size_of p) (map (λ c. c.row) p.corners ++ rows))) (corners_own p.corners rows)
    ∙ ap (λ rs. p ∷ vertices_rows prims rs) (drop_own p.corners rows) ∙ ap (λ ps. p ∷ ps) (vertices_own prims)

pub with_rows_own : (g : Geo) (class : Class) → with_rows g class (rows_of g class) ≡ g
with_rows_own g Detail = refl
with_rows_own g Prim = ap (λ (ps : List Primitive). record g { prims = ps }) (prims_own g.prims)
with_rows_own g Point = refl
with_rows_own g Vertex = ap (λ (ps : List Primitive). record g { prims = ps }) (vertices_own g.prims)
