-- A geometry is its heads, groups and rows class by class, and the shape of its primitives; and these parts after each call.
use Rattle.std.proofs.Common.{◌≡◌, ℕ, zero, suc, ◌+◌, ◌<◌, Bool, false, List, [], ◌∷◌, ◌++◌, length, map, get_or, take, replicate, refl, ap, sym, ◌∙◌, subst, arith, inl, inr}
use Rattle.std.specs.Prelude.{All}
use Rattle.std.specs.List.{flat_map, range_with_len}
use Rattle.std.proofs.lemmas.Bool.{cases_Bool}
use Rattle.std.proofs.lemmas.List.{length-map, map-append, get_or-map, get_or_default}
use Rattle.std.proofs.lemmas.List.Concat.{get_or-flat_map, length-flat_map}
use Rattle.std.proofs.lemmas.List.Elements.{All-head, All-tail}
use Rattle.sop_model.specs.declared.class.Class.{Class}
use Rattle.sop_model.specs.declared.class.Class.TheVariants.{Detail, Prim, Point, Vertex}
use Rattle.sop_model.specs.declared.geo.Geo.{Geo}
use Rattle.sop_model.specs.declared.geo.Corner.{Corner}
use Rattle.sop_model.specs.declared.geo.Primitive.{Primitive}
use Rattle.sop_model.specs.Vertices.{size_of, corners_of, first_vertex_in}
use Rattle.sop_model.specs.Geometry.{empty_row, rows_of, count_of}
use Rattle.sop_model.specs.Rows.{default_row, new_corner, new_prim, prim_added, renumbered_corner, renumbered, no_prim, picked, reordered, IsOrderOf}
use Rattle.sop_model.specs.Sweep.{MarkSet, stays, kept, how_many, corners_kept, swept}
use Rattle.sop_rows.specs.Parts.{vertices_with, sizes_kept}
use Rattle.sop_rows.proofs.ElementOps.{corners_of-prim_added}
use Rattle.sop_rows.proofs.OrderOps.{corners_of-renumbered, sizes_of-renumbered, order_within}
use Rattle.sop_rows.proofs.KeptLemmas.{kept-yes, kept-no, map-kept}
use Rattle.sop_rows.proofs.SweepLemmas.{corners_of-swept}

-- A GEOMETRY BY ITS PARTS

corners_by_parts : (cs ds : List Corner) → map (λ c. c.point) cs ≡ map (λ c. c.point) ds → map (λ c. c.row) cs ≡ map (λ c. c.row) ds → cs ≡ ds
corners_by_parts [] [] points rows = refl
corners_by_parts [] (d ∷ ds) points rows = cc
corners_by_parts (c ∷ cs) [] points rows = cc
corners_by_parts (c ∷ cs) (d ∷ ds) points rows =
    let point : c.point ≡ d.point = cc in
    let row : c.row ≡ d.row = cc in
    let more_points : map (λ c. c.point) cs ≡ map (λ c. c.point) ds = cc in
    let more_rows : map (λ c. c.row) cs ≡ map (λ c. c.row) ds = cc in
    let rest = corners_by_parts cs ds more_points more_rows in
    λ j. record { point = point j; row = row j } ∷ rest j

append_parts : {X : Type 0} (xs ys us vs : List X) → length xs ≡ length us → xs ++ ys ≡ us ++ vs → (xs ≡ us) × (ys ≡ vs)
append_parts [] ys [] vs long is = (refl, is)
append_parts [] ys (u ∷ us) vs long is = absurd (omega arith)
append_parts (x ∷ xs) ys [] vs long is = absurd (omega arith)
append_parts (x ∷ xs) ys (u ∷ us) vs long is =
    let first : x ≡ u = cc in
    let left : xs ++ ys ≡ us ++ vs = cc in
    let rest = append_parts xs ys us vs (omega arith) left in
    (λ j. first j ∷ rest.0 j, rest.1)

prims_by_parts : (ps qs : List Primitive) → map (λ p. p.closed) ps ≡ map (λ p. p.closed) qs → map (λ p. p.row) ps ≡ map (λ p. p.row) qs → map size_of ps ≡ map size_of qs → corners_of ps ≡ corners_of qs → ps ≡ qs
prims_by_parts [] [] closed rows sizes corners = refl
prims_by_parts [] (q ∷ qs) closed rows sizes corners = cc
prims_by_parts (p ∷ ps) [] closed rows sizes corners = cc
prims_by_parts (p ∷ ps) (q ∷ qs) closed rows sizes corners =
    let one : p.closed ≡ q.closed = cc in
    let row : p.row ≡ q.row = cc in
    let size : size_of p ≡ size_of q = cc in
    let more_closed : map (λ p. p.closed) ps ≡ map (λ p. p.closed) qs = cc in
    let more_rows : map (λ p. p.row) ps ≡ map (λ p. p.row) qs = cc in
    let more_sizes : map size_of ps ≡ map size_of qs = cc in
    let both = append_parts p.corners (corners_of ps) q.corners (corners_of qs) size corners in
    let own = both.0 in
    let rest = prims_by_parts ps qs more_closed more_rows more_sizes both.1 in
    λ j. record { closed = one j; row = row j; corners = own j } ∷ rest j

-- the same heads, groups and rows of each class, and the same shape
pub record SameParts (g h : Geo) : Type 0 where
  pub detail : h.detail ≡ g.detail
  pub prim : h.prim ≡ g.prim
  pub point : h.point ≡ g.point
  pub vertex : h.vertex ≡ g.vertex
  pub rows : (class : Class) → rows_of h class ≡ rows_of g class
  pub closed : map (λ p. p.closed) h.prims ≡ map (λ p. p.closed) g.prims
  pub sizes : map size_of h.prims ≡ map size_of g.prims
  pub refers : map (λ c. c.point) (corners_of h.prims) ≡ map (λ c. c.point) (corners_of g.prims)

-- geometries with the same parts are one
pub same_by_parts : (g h : Geo) → SameParts g h → h ≡ g
same_by_parts g h same =
    let one_row = same.rows Detail in
    let row : h.detail_row ≡ g.detail_row = cc in
    let points = same.rows Point in
    let corners = corners_by_parts (corners_of h.prims) (corners_of g.prims) same.refers (same.rows Vertex) in
    let prims = prims_by_parts h.prims g.prims same.closed (same.rows Prim) same.sizes corners in
    let d = same.detail in
    let p = same.prim in
    let o = same.point in
    let v = same.vertex in
    λ j. record { detail = d j; prim = p j; point = o j; vertex = v j; points = points j; prims = prims j; detail_row = row j }

-- OTHER NUMBERS OF POINTS

module _ (f : ℕ → ℕ) where
  pub closed_of-renumbered : (prims : List Primitive) → map (λ p. p.closed) (map (renumbered f) prims) ≡ map (λ p. p.closed) prims
  closed_of-renumbered [] = refl
  closed_of-renumbered (p ∷ prims) = ap (λ rest. p.closed ∷ rest) (closed_of-renumbered prims)

  pub refers_of-corners : (corners : List Corner) → map (λ c. c.point) (map (renumbered_corner f) corners) ≡ map f (map (λ c. c.point) corners)
  refers_of-corners [] = refl
  refers_of-corners (c ∷ corners) = ap (λ rest. f c.point ∷ rest) (refers_of-corners corners)

  pub refers_of-renumbered : (prims : List Primitive) → map (λ c. c.point) (corners_of (map (renumbered f) prims)) ≡ map f (map (λ c. c.point) (corners_of prims))
  refers_of-renumbered prims = ap (map (λ c. c.point)) (corners_of-renumbered f prims) ∙ refers_of-corners (corners_of prims)

-- A PRIMITIVE ADDED

new_points : (g : Geo) (points : List ℕ) → map (λ c. c.point) (map (new_corner g) points) ≡ points
new_points g [] = refl
new_points g (point ∷ points) = ap (λ rest. point ∷ rest) (new_points g points)

new_rows : (g : Geo) (points : List ℕ) → map (λ c. c.row) (map (new_corner g) points) ≡ replicate (length points) (default_row g.vertex)
new_rows g [] = refl
new_rows g (point ∷ points) = ap (λ rest. default_row g.vertex ∷ rest) (new_rows g points)

module _ (g : Geo) (closed : Bool) (points : List ℕ) where
  pub prim_rows-prim_added : rows_of (prim_added g closed points) Prim ≡ rows_of g Prim ++ default_row g.prim ∷ []
  prim_rows-prim_added = map-append (λ p. p.row) g.prims (new_prim g closed points ∷ [])

  pub vertex_rows-prim_added : rows_of (prim_added g closed points) Vertex ≡ rows_of g Vertex ++ replicate (length points) (default_row g.vertex)
  vertex_rows-prim_added =
      ap (map (λ c. c.row)) (corners_of-prim_added g closed points) ∙ map-append (λ c. c.row) (corners_of g.prims) (map (new_corner g) points) ∙ ap (λ rows. rows_of g Vertex ++ rows) (new_rows g points)

  pub closed_of-prim_added : map (λ p. p.closed) (prim_added g closed points).prims ≡ map (λ p. p.closed) g.prims ++ closed ∷ []
  closed_of-prim_added = map-append (λ p. p.closed) g.prims (new_prim g closed points ∷ [])

  pub sizes_of-prim_added : map size_of (prim_added g closed points).prims ≡ map size_of g.prims ++ length points ∷ []
  sizes_of-prim_added = map-append size_of g.prims (new_prim g closed points ∷ []) ∙ ap (λ n. map size_of g.prims ++ n ∷ []) (length-map points (new_corner g))

  pub refers_of-prim_added : map (λ c. c.point) (corners_of (prim_added g closed points).prims) ≡ map (λ c. c.point) (corners_of g.prims) ++ points
  refers_of-prim_added =
      ap (map (λ c. c.point)) (corners_of-prim_added g closed points) ∙ map-append (λ c. c.point) (corners_of g.prims) (map (new_corner g) points)
      ∙ ap (λ ns. map (λ c. c.point) (corners_of g.prims) ++ ns) (new_points g points)

-- PRIMITIVES IN ANOTHER ORDER

from_range : {X : Type 0} (f : ℕ → X) (xs : List X) (a : ℕ) → ((k : ℕ) (d : X) → k < length xs → get_or xs k d ≡ f (a + k)) → map f (range_with_len a (length xs)) ≡ xs
from_range f [] a each = refl
from_range f (x ∷ xs) a each =
    let place : a + 0 ≡ a = omega arith in
    let here = ap f (sym place) ∙ sym (each 0 x (omega arith)) in
    let rest = from_range f xs (a + 1) (λ k d lt. each (suc k) d (omega arith) ∙ ap f (let p : a + suc k ≡ a + 1 + k = omega arith in p)) in
    λ j. here j ∷ rest j

module _ (prims : List Primitive) where
  vertices_of_one : (d : Corner) (i : ℕ) → i < length prims → map (λ v. get_or (corners_of prims) v d) (range_with_len (first_vertex_in prims i) (get_or (map size_of prims) i 0)) ≡ (get_or prims i no_prim).corners
  vertices_of_one d i lt =
      let p = get_or prims i no_prim in
      let size : get_or (map size_of prims) i 0 ≡ size_of p = get_or-map size_of prims i no_prim 0 lt in
      let first : length (flat_map (λ p. p.corners) (take i prims)) ≡ first_vertex_in prims i = length-flat_map (λ p. p.corners) (take i prims) in
      ap (λ n. map (λ v. get_or (corners_of prims) v d) (range_with_len (first_vertex_in prims i) n)) size
      ∙ from_range (λ v. get_or (corners_of prims) v d) p.corners (first_vertex_in prims i)
      (λ k e lk. get_or_default p.corners k e d lk ∙ sym (get_or-flat_map (λ p. p.corners) prims i k no_prim d lt lk) ∙ ap (λ n. get_or (corners_of prims) (n + k) d) first)

  -- the vertices go with their primitives
  pub corners_of-picked : (d : Corner) (perm : List ℕ) → All (λ i. i < length prims) perm → corners_of (picked prims no_prim perm) ≡ picked (corners_of prims) d (vertices_with prims perm)
  corners_of-picked d [] all = refl
  corners_of-picked d (i ∷ perm) all =
      let here = vertices_of_one d i (All-head (λ i. i < length prims) i perm all) in
      let rest = corners_of-picked d perm (All-tail (λ i. i < length prims) i perm all) in
      let own = range_with_len (first_vertex_in prims i) (get_or (map size_of prims) i 0) in
      let back = sym here in
      (λ j. back j ++ rest j) ∙ sym (map-append (λ v. get_or (corners_of prims) v d) own (vertices_with prims perm))

-- what is read of picked items, where the default is read alike
read_alike : {X Y : Type 0} (f : X → Y) (xs : List X) (d : X) (k : ℕ) → f (get_or xs k d) ≡ get_or (map f xs) k (f d)
read_alike f [] d k = refl
read_alike f (x ∷ xs) d zero = refl
read_alike f (x ∷ xs) d (suc k) = read_alike f xs d k

map_picked : {X Y : Type 0} (f : X → Y) (xs : List X) (d : X) (perm : List ℕ) → map f (picked xs d perm) ≡ picked (map f xs) (f d) perm
map_picked f xs d [] = refl
map_picked f xs d (i ∷ perm) =
    let rest = map_picked f xs d perm in
    let first = read_alike f xs d i in
    λ j. first j ∷ rest j

module _ (g : Geo) (perm : List ℕ) (is : IsOrderOf (count_of g Prim) perm) where
  no_corner : Corner
  no_corner = record { point = 0; row = empty_row }

  many : length g.prims ≡ count_of g Prim
  many = sym (length-map g.prims (λ p. p.row))

  pub closed_of-reordered : map (λ p. p.closed) (reordered g Prim perm).prims ≡ picked (map (λ p. p.closed) g.prims) false perm
  closed_of-reordered = map_picked (λ p. p.closed) g.prims no_prim perm

  pub sizes_of-reordered : map size_of (reordered g Prim perm).prims ≡ picked (map size_of g.prims) 0 perm
  sizes_of-reordered = map_picked size_of g.prims no_prim perm

  corners_moved : corners_of (reordered g Prim perm).prims ≡ picked (corners_of g.prims) no_corner (vertices_with g.prims perm)
  corners_moved = corners_of-picked g.prims no_corner perm (subst (λ n. All (λ i. i < n) perm) (sym many) (order_within (count_of g Prim) perm is))

  pub vertex_rows-reordered : rows_of (reordered g Prim perm) Vertex ≡ picked (rows_of g Vertex) empty_row (vertices_with g.prims perm)
  unfolding no_corner
  vertex_rows-reordered = ap (map (λ c. c.row)) corners_moved ∙ map_picked (λ c. c.row) (corners_of g.prims) no_corner (vertices_with g.prims perm)

  pub refers_of-reordered : map (λ c. c.point) (corners_of (reordered g Prim perm).prims) ≡ picked (map (λ c. c.point) (corners_of g.prims)) 0 (vertices_with g.prims perm)
  unfolding no_corner
  refers_of-reordered = ap (map (λ c. c.point)) corners_moved ∙ map_picked (λ c. c.point) (corners_of g.prims) no_corner (vertices_with g.prims perm)

-- A SWEEP

module _ (test : ℕ → Bool) where
  -- how many are kept doesn't hang on the items
  length-kept-range : {X : Type 0} (n a : ℕ) (xs : List X) → length (kept test n xs) ≡ length (kept test n (range_with_len a (length xs)))
  length-kept-range n a [] = refl
  length-kept-range n a (x ∷ xs) =
      let rest = length-kept-range (suc n) (a + 1) xs in
      elim (cases_Bool (test n)) [
        | inl stays ↦ ap length (kept-yes test n x xs stays) ∙ ap suc rest ∙ sym (ap length (kept-yes test n a (range_with_len (a + 1) (length xs)) stays))
        | inr goes ↦ ap length (kept-no test n x xs goes) ∙ rest ∙ sym (ap length (kept-no test n a (range_with_len (a + 1) (length xs)) goes))
      ]

  sizes_left : (n : ℕ) (prims : List Primitive) → map size_of (corners_kept test n prims) ≡ sizes_kept test n (map size_of prims)
  sizes_left n [] = refl
  sizes_left n (p ∷ prims) =
      let here = length-kept-range n n p.corners in
      let rest = sizes_left (n + size_of p) prims in
      λ j. here j ∷ rest j

  closed_left : (n : ℕ) (prims : List Primitive) → map (λ p. p.closed) (corners_kept test n prims) ≡ map (λ p. p.closed) prims
  closed_left n [] = refl
  closed_left n (p ∷ prims) = ap (λ rest. p.closed ∷ rest) (closed_left (n + size_of p) prims)

module _ (g : Geo) (marks : MarkSet) where
  left : List Primitive
  left = kept (stays g marks Prim) 0 (corners_kept (stays g marks Vertex) 0 g.prims)

  pub closed_of-swept : map (λ p. p.closed) (swept g marks).prims ≡ kept (stays g marks Prim) 0 (map (λ p. p.closed) g.prims)
  unfolding left
  closed_of-swept =
      closed_of-renumbered (how_many (stays g marks Point)) left ∙ map-kept (stays g marks Prim) (λ p. p.closed) 0 (corners_kept (stays g marks Vertex) 0 g.prims)
      ∙ ap (kept (stays g marks Prim) 0) (closed_left (stays g marks Vertex) 0 g.prims)

  pub sizes_of-swept : map size_of (swept g marks).prims ≡ kept (stays g marks Prim) 0 (sizes_kept (stays g marks Vertex) 0 (map size_of g.prims))
  unfolding left
  sizes_of-swept =
      sizes_of-renumbered (how_many (stays g marks Point)) left ∙ map-kept (stays g marks Prim) size_of 0 (corners_kept (stays g marks Vertex) 0 g.prims)
      ∙ ap (kept (stays g marks Prim) 0) (sizes_left (stays g marks Vertex) 0 g.prims)

  pub refers_of-swept : map (λ c. c.point) (corners_of (swept g marks).prims) ≡ map (how_many (stays g marks Point)) (kept (stays g marks Vertex) 0 (map (λ c. c.point) (corners_of g.prims)))
  refers_of-swept =
      ap (map (λ c. c.point)) (corners_of-swept g marks) ∙ refers_of-corners (how_many (stays g marks Point)) (kept (stays g marks Vertex) 0 (corners_of g.prims))
      ∙ ap (map (how_many (stays g marks Point))) (map-kept (stays g marks Vertex) (λ c. c.point) 0 (corners_of g.prims))
