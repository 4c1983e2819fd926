-- Points, primitives and vertices added: how many there are then, and that what is left is well made and within the limits.
use Rattle.std.proofs.Common.{◌≡◌, ℕ, ◌+◌, ◌<◌, ◌≤◌, Bool, List, [], ◌∷◌, ◌++◌, length, map, replicate, refl, ap, sym, ◌∙◌, subst, arith, length-append}
use Rattle.std.specs.Prelude.{All}
use Rattle.std.proofs.lemmas.List.{length-map, length-replicate, map-append, append-nil}
use Rattle.std.proofs.lemmas.List.Concat.{flat_map-append}
use Rattle.std.proofs.lemmas.List.Elements.{All-nil, All-cons, All-head, All-tail, All-append, All-weaker, All-map, All-replicate}
use Rattle.sop_model.specs.declared.class.Class.{Class}
use Rattle.sop_model.specs.declared.class.Class.TheVariants.{Detail, Prim, Point, Vertex}
use Rattle.sop_model.specs.declared.geo.Geo.{Geo}
use Rattle.sop_model.specs.declared.geo.HeadSet.{HeadSet}
use Rattle.sop_model.specs.declared.geo.Corner.{Corner}
use Rattle.sop_model.specs.declared.geo.Primitive.{Primitive}
use Rattle.sop_model.specs.Limits.{most_points, most_prims, most_vertices, most_heads, most_groups}
use Rattle.sop_model.specs.Vertices.{size_of, corners_of}
use Rattle.sop_model.specs.Geometry.{heads_of, rows_of, count_of, IsNamed, IsRowOf, IsSound, IsGood, IsWithin}
use Rattle.sop_model.specs.Rows.{default_row, points_added, new_corner, new_prim, prim_added, ArePoints}
use Rattle.sop_model.proofs.RowLists.{All-under_map, All-left, All-right}
use Rattle.sop_rows.proofs.RowSound.{IsRowOf-default_row}
use Rattle.sop_model.proofs.LimitsLemmas.{IsWithin-from, within_points, within_prims, within_vertices, within_heads, within_groups}

-- VERTICES AND PRIMITIVES ONE BY ONE

pub corners_of-append : (prims more : List Primitive) → corners_of (prims ++ more) ≡ corners_of prims ++ corners_of more
corners_of-append prims more = flat_map-append (λ p. p.corners) prims more

-- what holds of all vertices holds of those of each primitive
pub All-by_prim : (Q : Corner → Type 0) (prims : List Primitive) → All Q (corners_of prims) → All (λ p. All Q p.corners) prims
All-by_prim Q [] all = All-nil (λ p. All Q p.corners)
All-by_prim Q (p ∷ prims) all = All-cons (λ p. All Q p.corners) p prims (All-left Q p.corners (corners_of prims) all) (All-by_prim Q prims (All-right Q p.corners (corners_of prims) all))

pub All-corners : (Q : Corner → Type 0) (prims : List Primitive) → All (λ p. All Q p.corners) prims → All Q (corners_of prims)
All-corners Q [] all = All-nil Q
All-corners Q (p ∷ prims) all = All-append Q p.corners (corners_of prims) (All-head (λ p. All Q p.corners) p prims all) (All-corners Q prims (All-tail (λ p. All Q p.corners) p prims all))

-- the vertices of a well made geometry
abbrev pub IsSoundCorner : Geo → Corner → Type 0
IsSoundCorner g c = IsRowOf g.vertex c.row × (c.point < length g.points)

pub sound_corners : (g : Geo) → IsSound g → All (IsSoundCorner g) (corners_of g.prims)
sound_corners g sound k d lt = (All-under_map (IsRowOf g.vertex) (λ c. c.row) (corners_of g.prims) (sound.rows Vertex) k d lt, sound.points k d lt)

-- POINTS ADDED

module _ (g : Geo) (n : ℕ) where
  pub heads_of-points_added : (class : Class) → heads_of (points_added g n) class ≡ heads_of g class
  heads_of-points_added Detail = refl
  heads_of-points_added Prim = refl
  heads_of-points_added Point = refl
  heads_of-points_added Vertex = refl

  pub count_of-points_added : count_of (points_added g n) Point ≡ count_of g Point + n
  count_of-points_added = length-append g.points (replicate n (default_row g.point)) ∙ ap (λ m. length g.points + m) (length-replicate n (default_row g.point))

  rows_added : IsSound g → (class : Class) → All (IsRowOf (heads_of (points_added g n) class)) (rows_of (points_added g n) class)
  rows_added sound Detail = sound.rows Detail
  rows_added sound Prim = sound.rows Prim
  rows_added sound Point = All-append (IsRowOf g.point) g.points (replicate n (default_row g.point)) (sound.rows Point) (All-replicate (IsRowOf g.point) n (default_row g.point) (IsRowOf-default_row g.point))
  rows_added sound Vertex = sound.rows Vertex

  pub IsSound-points_added : IsSound g → IsSound (points_added g n)
  IsSound-points_added sound = record {
    detail_groups = sound.detail_groups;
    named = λ class. subst IsNamed (sym (heads_of-points_added class)) (sound.named class);
    rows = rows_added sound;
    position = sound.position;
    points = let e = count_of-points_added in All-weaker (λ c. c.point < length g.points) (λ c. c.point < length (points_added g n).points) (λ c lt. omega arith) (corners_of g.prims) sound.points;
  }

  pub IsGood-points_added : IsGood g → IsGood (points_added g n)
  IsGood-points_added good = record { sound = IsSound-points_added good.sound; corners = good.corners }

  pub IsWithin-points_added : IsWithin g → count_of g Point + n ≤ most_points → IsWithin (points_added g n)
  IsWithin-points_added within few =
      IsWithin-from (points_added g n)
      (let e = count_of-points_added in omega arith)
      (within_prims within)
      (within_vertices within)
      (λ class. subst (λ (set : HeadSet). length set.heads ≤ most_heads) (sym (heads_of-points_added class)) (within_heads within class))
      (λ class. subst (λ (set : HeadSet). length set.groups ≤ most_groups) (sym (heads_of-points_added class)) (within_groups within class))

  -- and no further
  pub few-points_added : IsWithin (points_added g n) → count_of g Point + n ≤ most_points
  few-points_added within = let a = (within_points within) in let e = count_of-points_added in omega arith

-- A PRIMITIVE ADDED

module _ (g : Geo) (closed : Bool) (points : List ℕ) where
  pub heads_of-prim_added : (class : Class) → heads_of (prim_added g closed points) class ≡ heads_of g class
  heads_of-prim_added Detail = refl
  heads_of-prim_added Prim = refl
  heads_of-prim_added Point = refl
  heads_of-prim_added Vertex = refl

  pub corners_of-prim_added : corners_of (prim_added g closed points).prims ≡ corners_of g.prims ++ map (new_corner g) points
  corners_of-prim_added = corners_of-append g.prims (new_prim g closed points ∷ []) ∙ ap (λ cs. corners_of g.prims ++ cs) (append-nil (map (new_corner g) points))

  prims_many : length (prim_added g closed points).prims ≡ length g.prims + 1
  prims_many = length-append g.prims (new_prim g closed points ∷ [])

  vertices_many : length (corners_of (prim_added g closed points).prims) ≡ length (corners_of g.prims) + length points
  vertices_many = ap length corners_of-prim_added ∙ length-append (corners_of g.prims) (map (new_corner g) points) ∙ ap (λ n. length (corners_of g.prims) + n) (length-map points (new_corner g))

  pub prims_of-prim_added : count_of (prim_added g closed points) Prim ≡ count_of g Prim + 1
  prims_of-prim_added = length-map (prim_added g closed points).prims (λ p. p.row) ∙ prims_many ∙ ap (λ n. n + 1) (sym (length-map g.prims (λ p. p.row)))

  pub vertices_of-prim_added : count_of (prim_added g closed points) Vertex ≡ count_of g Vertex + length points
  vertices_of-prim_added =
      length-map (corners_of (prim_added g closed points).prims) (λ c. c.row) ∙ vertices_many ∙ ap (λ n. n + length points) (sym (length-map (corners_of g.prims) (λ c. c.row)))

  corners_sound : IsSound g → ArePoints g points → All (IsSoundCorner g) (corners_of (prim_added g closed points).prims)
  corners_sound sound are =
      subst (All (IsSoundCorner g)) (sym corners_of-prim_added) (All-append (IsSoundCorner g) (corners_of g.prims) (map (new_corner g) points) (sound_corners g sound)
      (All-map (IsSoundCorner g) (new_corner g) points (All-weaker (λ point. point < length g.points) (λ point. IsSoundCorner g (new_corner g point)) (λ point lt. (IsRowOf-default_row g.vertex, lt)) points are)))

  rows_of_added : IsSound g → ArePoints g points → (class : Class) → All (IsRowOf (heads_of (prim_added g closed points) class)) (rows_of (prim_added g closed points) class)
  rows_of_added sound are Detail = sound.rows Detail
  rows_of_added sound are Prim =
      subst (All (IsRowOf g.prim)) (sym (map-append (λ p. p.row) g.prims (new_prim g closed points ∷ [])))
      (All-append (IsRowOf g.prim) (rows_of g Prim) (default_row g.prim ∷ []) (sound.rows Prim) (All-cons (IsRowOf g.prim) (default_row g.prim) [] (IsRowOf-default_row g.prim) (All-nil (IsRowOf g.prim))))
  rows_of_added sound are Point = sound.rows Point
  rows_of_added sound are Vertex =
      All-map (IsRowOf g.vertex) (λ c. c.row) (corners_of (prim_added g closed points).prims)
      (All-weaker (IsSoundCorner g) (λ c. IsRowOf g.vertex c.row) (λ c both. both.0) (corners_of (prim_added g closed points).prims) (corners_sound sound are))

  pub IsSound-prim_added : IsSound g → ArePoints g points → IsSound (prim_added g closed points)
  IsSound-prim_added sound are = record {
    detail_groups = sound.detail_groups;
    named = λ class. subst IsNamed (sym (heads_of-prim_added class)) (sound.named class);
    rows = rows_of_added sound are;
    position = sound.position;
    points = All-weaker (IsSoundCorner g) (λ c. c.point < length g.points) (λ c both. both.1) (corners_of (prim_added g closed points).prims) (corners_sound sound are);
  }

  pub IsGood-prim_added : IsGood g → ArePoints g points → 0 < length points → IsGood (prim_added g closed points)
  IsGood-prim_added good are some = record {
    sound = IsSound-prim_added good.sound are;
    corners =
        let P : Primitive → Type 0 = λ p. 0 < size_of p in
        All-append P g.prims (new_prim g closed points ∷ []) good.corners (All-cons P (new_prim g closed points) [] (let e = length-map points (new_corner g) in omega arith) (All-nil P));
  }

  pub IsWithin-prim_added : IsWithin g → count_of g Prim < most_prims → count_of g Vertex + length points ≤ most_vertices → IsWithin (prim_added g closed points)
  IsWithin-prim_added within few few_vertices =
      IsWithin-from (prim_added g closed points)
      (within_points within)
      (let a = prims_many in let b = length-map g.prims (λ p. p.row) in omega arith)
      (let a = vertices_many in let b = length-map (corners_of g.prims) (λ c. c.row) in omega arith)
      (λ class. subst (λ (set : HeadSet). length set.heads ≤ most_heads) (sym (heads_of-prim_added class)) (within_heads within class))
      (λ class. subst (λ (set : HeadSet). length set.groups ≤ most_groups) (sym (heads_of-prim_added class)) (within_groups within class))

  -- and no further
  pub few-prim_added : IsWithin (prim_added g closed points) → (count_of g Prim < most_prims) × (count_of g Vertex + length points ≤ most_vertices)
  few-prim_added within =
      let a = (within_prims within) in let b = prims_many in let c = length-map g.prims (λ p. p.row) in
      let d = (within_vertices within) in let e = vertices_many in let f = length-map (corners_of g.prims) (λ c. c.row) in
      (omega arith, omega arith)
