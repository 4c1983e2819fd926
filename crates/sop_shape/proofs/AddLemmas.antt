-- The shape of a geometry with further vertices, by the groups of its vertices and of what is added.
use Rattle.std.proofs.Common.{◌≡◌, ℕ, zero, suc, ◌+◌, ◌-◌, ◌<◌, ◌≤◌, Bool, false, cond, eqb, List, [], ◌∷◌, ◌++◌, length, map, get_or, take, replicate, refl, ap, sym, ◌∙◌, subst, arith, inl, inr, length-append, append_assoc}
use Rattle.std.specs.Prelude.{All, filter, min}
use Rattle.std.specs.List.{flat_map, range_with_len}
use Rattle.std.proofs.lemmas.Bool.{cases_Bool, cases_lt, eq-eqb, ne_eqb}
use Rattle.std.proofs.lemmas.List.{append-nil, length-map, length-take-le, take_all, take_more, map-append, length-replicate, get_or-map, get_or_at, get_or_append_left, get_or-append_right}
use Rattle.std.proofs.lemmas.List.Concat.{length-flat_map}
use Rattle.std.proofs.lemmas.List.Sums.{sum_by_more}
use Rattle.std.proofs.lemmas.List.Elements.{All-nil, All-cons, All-head, All-tail, All-append, All-weaker, All-map, All-replicate}
use Rattle.sop_model.specs.declared.class.Class.TheVariants.{Prim, Vertex}
use Rattle.sop_model.specs.declared.geo.Geo.{Geo}
use Rattle.sop_model.specs.declared.geo.Row.{Row}
use Rattle.sop_model.specs.declared.geo.Corner.{Corner}
use Rattle.sop_model.specs.declared.geo.Primitive.{Primitive}
use Rattle.sop_model.specs.Limits.{most_vertices}
use Rattle.sop_model.specs.Geometry.{empty_row, rows_of}
use Rattle.sop_model.specs.Vertices.{size_of, corners_of, first_vertex_in, ends_of, with_more}
use Rattle.sop_model.specs.Rows.{no_prim, default_row, new_corner, points_for, corners_added, vertices_added, picked}
use Rattle.sop_model.proofs.RowLists.{map_agree}
use Rattle.sop_rows.proofs.ElementOps.{corners_of-append}
use Rattle.sop_rows.proofs.VertexOps.{new_place, prims_of-vertices_added, vertices_of-longer_prims}
use Rattle.sop_shape.specs.Shapes.{ShapeLists, shape_with, HasShape, IsShape}
use Rattle.sop_shape.specs.Groups.{places_of, grouped, group_ends, owners_from}
use Rattle.sop_shape.proofs.ReadLemmas.{closed_is, refers_is, prims_counted, vertices_counted}
use Rattle.sop_shape.proofs.SortLemmas.{places-here, places-other, places-append, length-grouped-more}

-- OWNERS

pub owners-append : (n : ℕ) (ps qs : List Primitive) → owners_from n (ps ++ qs) ≡ owners_from n ps ++ owners_from (n + length ps) qs
owners-append n [] qs = ap (λ k. owners_from k qs) (omega arith)
owners-append n (p ∷ ps) qs =
    let place : suc n + length ps ≡ n + suc (length ps) = omega arith in
    ap (λ r. replicate (size_of p) n ++ r) (owners-append (suc n) ps qs ∙ ap (λ k. owners_from (suc n) ps ++ owners_from k qs) place)
    ∙ sym (append_assoc (replicate (size_of p) n) (owners_from (suc n) ps) (owners_from (n + suc (length ps)) qs))

pub length-owners : (n : ℕ) (ps : List Primitive) → length (owners_from n ps) ≡ length (corners_of ps)
length-owners n [] = refl
length-owners n (p ∷ ps) =
    let rest = length-owners (suc n) ps in
    let one = length-append (replicate (size_of p) n) (owners_from (suc n) ps) in
    let two = length-replicate (size_of p) n in
    let both = length-append p.corners (corners_of ps) in
    omega arith

pub owners_below : (n : ℕ) (ps : List Primitive) → All (λ k. k < n + length ps) (owners_from n ps)
owners_below n [] = All-nil (λ k. k < n + 0)
owners_below n (p ∷ ps) =
    let P : ℕ → Type 0 = λ k. k < n + suc (length ps) in
    All-append P (replicate (size_of p) n) (owners_from (suc n) ps) (All-replicate P (size_of p) n (omega arith)) (All-weaker (λ k. k < suc n + length ps) P (λ k lt. omega arith) (owners_from (suc n) ps) (owners_below (suc n) ps))

owners_above : (n : ℕ) (ps : List Primitive) → All (λ k. n ≤ k) (owners_from n ps)
owners_above n [] = All-nil (λ k. n ≤ k)
owners_above n (p ∷ ps) =
    let P : ℕ → Type 0 = λ k. n ≤ k in
    All-append P (replicate (size_of p) n) (owners_from (suc n) ps) (All-replicate P (size_of p) n (omega arith)) (All-weaker (λ k. suc n ≤ k) P (λ k lt. omega arith) (owners_from (suc n) ps) (owners_above (suc n) ps))

-- the owners up to one primitive more
pub owners_more : (prims : List Primitive) (k end many : ℕ) (owners new : List ℕ) → k < length prims → end ≡ first_vertex_in prims (k + 1) → many ≡ length owners → owners ≡ owners_from 0 (take k prims) → new ≡ take end owners ++ replicate (end - many) k
    → new ≡ owners_from 0 (take (k + 1) prims)
owners_more prims k end many owners new lt end_is many_is owners_are new_is =
    let p = get_or prims k no_prim in
    let front = take k prims in
    let long = ap length owners_are ∙ length-owners 0 front ∙ length-flat_map (λ p. p.corners) front in
    let more = sum_by_more size_of prims k no_prim lt in
    let size : end - many ≡ size_of p = omega arith in
    let place : k ≡ 0 + length front = omega (arith, length-take-le k prims (omega arith)) in
    let whole = take_all end owners (omega arith) in
    new_is ∙ ap (λ xs. xs ++ replicate (end - many) k) (whole ∙ owners_are) ∙ ap (λ n. owners_from 0 front ++ replicate n k) size ∙ ap (λ n. owners_from 0 front ++ replicate (size_of p) n) place
    ∙ ap (λ xs. owners_from 0 front ++ xs) (sym (append-nil (replicate (size_of p) (0 + length front)))) ∙ sym (owners-append 0 front (p ∷ [])) ∙ ap (owners_from 0) (sym (take_more prims k no_prim lt))

places_none : (i n : ℕ) (keys : List ℕ) → All (λ k. eqb k i ≡ false) keys → places_of i n keys ≡ []
places_none i n [] none = refl
places_none i n (k ∷ keys) none = let P : ℕ → Type 0 = λ k. eqb k i ≡ false in places-other i n k keys (All-head P k keys none) ∙ places_none i (n + 1) keys (All-tail P k keys none)

places-replicate : (i n m : ℕ) → places_of i n (replicate m i) ≡ range_with_len n m
places-replicate i n zero = refl
places-replicate i n (suc m) = places-here i n i (replicate m i) (eq-eqb i i refl) ∙ ap (λ r. n ∷ r) (places-replicate i (n + 1) m)

-- the vertices of a primitive are the places where its number stands
own_places : (before : List Primitive) (p : Primitive) (rest : List Primitive) → places_of (length before) 0 (owners_from 0 (before ++ p ∷ rest)) ≡ range_with_len (length (corners_of before)) (size_of p)
own_places before p rest =
    let i = length before in
    let front = owners_from 0 before in
    let own = replicate (size_of p) i in
    let back = owners_from (suc i) rest in
    let place : 0 + i ≡ i = omega arith in
    let start : 0 + length front ≡ length (corners_of before) = omega (arith, length-owners 0 before) in
    let no_front = places_none i 0 front (All-weaker (λ k. k < 0 + i) (λ k. eqb k i ≡ false) (λ k lt. ne_eqb k i (λ e. omega arith)) front (owners_below 0 before)) in
    let no_back = places_none i (length (corners_of before) + length own) back (All-weaker (λ k. suc i ≤ k) (λ k. eqb k i ≡ false) (λ k lt. ne_eqb k i (λ e. omega arith)) back (owners_above (suc i) rest)) in
    ap (places_of i 0) (owners-append 0 before (p ∷ rest) ∙ ap (λ k. front ++ (replicate (size_of p) k ++ owners_from (suc k) rest)) place)
    ∙ places-append i 0 front (own ++ back) ∙ ap (λ xs. xs ++ places_of i (0 + length front) (own ++ back)) no_front ∙ ap (λ k. places_of i k (own ++ back)) start
    ∙ places-append i (length (corners_of before)) own back ∙ ap (λ xs. places_of i (length (corners_of before)) own ++ xs) no_back ∙ append-nil (places_of i (length (corners_of before)) own)
    ∙ places-replicate i (length (corners_of before)) (size_of p)

-- PLACES READ

module _ {X : Type 0} (d : X) where
  range_read : (pre xs post : List X) → map (λ v. get_or (pre ++ (xs ++ post)) v d) (range_with_len (length pre) (length xs)) ≡ xs
  range_read pre [] post = refl
  range_read pre (x ∷ xs) post =
      let whole = pre ++ x ∷ (xs ++ post) in
      let same : (pre ++ x ∷ []) ++ (xs ++ post) ≡ whole = append_assoc pre (x ∷ []) (xs ++ post) in
      let long : length (pre ++ x ∷ []) ≡ length pre + 1 = length-append pre (x ∷ []) in
      let rest = ap (λ n. map (λ v. get_or whole v d) (range_with_len n (length xs))) (sym long) ∙ ap (λ ys. map (λ v. get_or ys v d) (range_with_len (length (pre ++ x ∷ [])) (length xs))) (sym same) ∙ range_read (pre ++ x ∷ []) xs post in
      let here = get_or_at pre x (xs ++ post) d (length pre) refl in
      λ j. here j ∷ rest j

  adds_read : (f : ℕ → X) (i : ℕ) (pre : List X) (adds : List (ℕ × ℕ)) → map (λ v. get_or (pre ++ map f (map (λ a. a.1) adds)) v d) (places_of i (length pre) (map (λ a. a.0) adds)) ≡ map f (points_for i adds)
  adds_read f i pre [] = refl
  adds_read f i pre (a ∷ adds) =
      let whole = pre ++ f a.1 ∷ map f (map (λ (a : ℕ × ℕ). a.1) adds) in
      let same : (pre ++ f a.1 ∷ []) ++ map f (map (λ (a : ℕ × ℕ). a.1) adds) ≡ whole = append_assoc pre (f a.1 ∷ []) (map f (map (λ (a : ℕ × ℕ). a.1) adds)) in
      let long : length (pre ++ f a.1 ∷ []) ≡ length pre + 1 = length-append pre (f a.1 ∷ []) in
      let left = map (λ (a : ℕ × ℕ). a.0) adds in
      let rest = ap (λ n. map (λ v. get_or whole v d) (places_of i n left)) (sym long) ∙ ap (λ ys. map (λ v. get_or ys v d) (places_of i (length (pre ++ f a.1 ∷ [])) left)) (sym same) ∙ adds_read f i (pre ++ f a.1 ∷ []) adds in
      let here = get_or_at pre (f a.1) (map f (map (λ (a : ℕ × ℕ). a.1) adds)) d (length pre) refl in
      let others = filter (λ (a : ℕ × ℕ). eqb a.0 i) adds in
      let chosen = λ (b : Bool). map f (map (λ (a : ℕ × ℕ). a.1) (cond b (a ∷ others) others)) in
      elim (cases_Bool (eqb a.0 i)) [
        | inl here_too ↦ ap (map (λ v. get_or whole v d)) (places-here i (length pre) a.0 left here_too) ∙ (λ j. here j ∷ rest j) ∙ sym (ap chosen here_too)
        | inr other ↦ ap (map (λ v. get_or whole v d)) (places-other i (length pre) a.0 left other) ∙ rest ∙ sym (ap chosen other)
      ]

-- what is read of picked items, where the default is read alike
pub read_alike : {X Y : Type 0} (f : X → Y) (xs : List X) (d : X) (k : ℕ) → f (get_or xs k d) ≡ get_or (map f xs) k (f d)
read_alike f [] d k = refl
read_alike f (x ∷ xs) d zero = refl
read_alike f (x ∷ xs) d (suc k) = read_alike f xs d k

pub map_picked : {X Y : Type 0} (f : X → Y) (xs : List X) (d : X) (places : List ℕ) → map f (picked xs d places) ≡ picked (map f xs) (f d) places
map_picked f xs d [] = refl
map_picked f xs d (i ∷ places) =
    let rest = map_picked f xs d places in
    let first = read_alike f xs d i in
    λ j. first j ∷ rest j

-- THE PLACES ARE WITHIN

places_within : (i n : ℕ) (keys : List ℕ) → All (λ p. p < n + length keys) (places_of i n keys)
places_within i n [] = All-nil (λ p. p < n + 0)
places_within i n (k ∷ keys) =
    let P : ℕ → Type 0 = λ p. p < n + suc (length keys) in
    let rest = All-weaker (λ p. p < n + 1 + length keys) P (λ p lt. omega arith) (places_of i (n + 1) keys) (places_within i (n + 1) keys) in
    elim (cases_Bool (eqb k i)) [
      | inl here ↦ subst (All P) (sym (places-here i n k keys here)) (All-cons P n (places_of i (n + 1) keys) (omega arith) rest)
      | inr other ↦ subst (All P) (sym (places-other i n k keys other)) rest
    ]

pub grouped_within : (groups : ℕ) (keys : List ℕ) → All (λ p. p < length keys) (grouped groups keys)
grouped_within groups keys = within_from (range_with_len 0 groups)
  where
    within_from : (is : List ℕ) → All (λ p. p < length keys) (flat_map (λ number. places_of number 0 keys) is)
    within_from [] = All-nil (λ p. p < length keys)
    within_from (i ∷ is) =
        let P : ℕ → Type 0 = λ p. p < length keys in
        All-append P (places_of i 0 keys) (flat_map (λ number. places_of number 0 keys) is) (All-weaker (λ p. p < 0 + length keys) P (λ p lt. omega arith) (places_of i 0 keys) (places_within i 0 keys)) (within_from is)

-- THE VERTICES, GROUPED

no_corner : Corner
no_corner = record { point = 0; row = empty_row }

new_points : (g : Geo) (points : List ℕ) → map (λ c. c.point) (map (new_corner g) points) ≡ points
new_points g [] = refl
new_points g (point ∷ points) = ap (λ rest. point ∷ rest) (new_points g points)

new_rows : (g : Geo) (points : List ℕ) → map (λ c. c.row) (map (new_corner g) points) ≡ map (λ point. default_row g.vertex) points
new_rows g [] = refl
new_rows g (point ∷ points) = ap (λ rest. default_row g.vertex ∷ rest) (new_rows g points)

-- the primitives and points of what is added, behind those of the vertices
abbrev pub keys_with : Geo → List (ℕ × ℕ) → List ℕ
keys_with g adds = owners_from 0 g.prims ++ map (λ a. a.0) adds

module _ (g : Geo) (adds : List (ℕ × ℕ)) where
  abbrev keys : List ℕ
  keys = keys_with g adds

  abbrev all : List Corner
  all = corners_of g.prims ++ map (new_corner g) (map (λ a. a.1) adds)

  abbrev more : ℕ → List Corner
  more i = map (new_corner g) (points_for i adds)

  pub length-keys : length keys ≡ length (corners_of g.prims) + length adds
  length-keys = length-append (owners_from 0 g.prims) (map (λ a. a.0) adds) ∙ omega (arith, length-owners 0 g.prims, length-map adds (λ (a : ℕ × ℕ). a.0))

  of_one : (before : List Primitive) (p : Primitive) (rest : List Primitive) → g.prims ≡ before ++ p ∷ rest → picked all no_corner (places_of (length before) 0 keys) ≡ p.corners ++ more (length before)
  of_one before p rest is =
      let i = length before in
      let news = map (new_corner g) (map (λ (a : ℕ × ℕ). a.1) adds) in
      let firsts = map (λ (a : ℕ × ℕ). a.0) adds in
      let own = range_with_len (length (corners_of before)) (size_of p) in
      let start : 0 + length (owners_from 0 g.prims) ≡ length (corners_of g.prims) = omega (arith, length-owners 0 g.prims) in
      let split : all ≡ corners_of before ++ (p.corners ++ (corners_of rest ++ news)) = ap (λ ps. corners_of ps ++ news) is ∙ ap (λ cs. cs ++ news) (corners_of-append before (p ∷ rest))
      ∙ append_assoc (corners_of before) (p.corners ++ corners_of rest) news ∙ ap (λ cs. corners_of before ++ cs) (append_assoc p.corners (corners_of rest) news) in
      let places = places-append i 0 (owners_from 0 g.prims) firsts ∙ ap (λ xs. xs ++ places_of i (0 + length (owners_from 0 g.prims)) firsts) (ap (λ ps. places_of i 0 (owners_from 0 ps)) is ∙ own_places before p rest) ∙ ap (λ k. own ++ places_of i k firsts) start in
      ap (map (λ v. get_or all v no_corner)) places ∙ map-append (λ v. get_or all v no_corner) own (places_of i (length (corners_of g.prims)) firsts)
      ∙ ap (λ cs. cs ++ map (λ v. get_or all v no_corner) (places_of i (length (corners_of g.prims)) firsts)) (ap (λ ys. map (λ v. get_or ys v no_corner) own) split ∙ range_read no_corner (corners_of before) p.corners (corners_of rest ++ news))
      ∙ ap (λ cs. p.corners ++ cs) (adds_read no_corner (new_corner g) i (corners_of g.prims) adds)

  one_longer : (before : List Primitive) (p : Primitive) → length (before ++ p ∷ []) ≡ suc (length before)
  one_longer before p = length-append before (p ∷ []) ∙ omega arith

  from_one_on : (before rest : List Primitive) → g.prims ≡ before ++ rest → corners_of (corners_added g adds (length before) rest) ≡ picked all no_corner (flat_map (λ number. places_of number 0 keys) (range_with_len (length before) (length rest)))
  from_one_on before [] is = refl
  from_one_on before (p ∷ rest) is =
      let n = length before in
      let next : suc n ≡ n + 1 = omega arith in
      let long = one_longer before p in
      let later = flat_map (λ number. places_of number 0 keys) (range_with_len (n + 1) (length rest)) in
      let both = ap (λ k. corners_of (corners_added g adds k rest)) (sym long) ∙ from_one_on (before ++ p ∷ []) rest (is ∙ sym (append_assoc before (p ∷ []) rest))
      ∙ ap (λ k. picked all no_corner (flat_map (λ number. places_of number 0 keys) (range_with_len k (length rest)))) (long ∙ next) in
      let own = sym (of_one before p rest is) in
      (λ j. own j ++ both j) ∙ sym (map-append (λ v. get_or all v no_corner) (places_of n 0 keys) later)

  ends_from_one_on : (before rest : List Primitive) → g.prims ≡ before ++ rest → ends_of (length (grouped (length before) keys)) (corners_added g adds (length before) rest) ≡ map (λ number. length (grouped (suc number) keys)) (range_with_len (length before) (length rest))
  ends_from_one_on before [] is = refl
  ends_from_one_on before (p ∷ rest) is =
      let n = length before in
      let next : suc n ≡ n + 1 = omega arith in
      let long = one_longer before p in
      let size : length (p.corners ++ more n) ≡ length (places_of n 0 keys) = sym (ap length (of_one before p rest is)) ∙ length-map (places_of n 0 keys) (λ v. get_or all v no_corner) in
      let end : length (grouped n keys) + size_of (with_more (more n) p) ≡ length (grouped (suc n) keys) = omega (arith, size, length-grouped-more keys n) in
      let rest_is = ap (λ k. ends_of (length (grouped k keys)) (corners_added g adds k rest)) (sym long) ∙ ends_from_one_on (before ++ p ∷ []) rest (is ∙ sym (append_assoc before (p ∷ []) rest))
      ∙ ap (λ k. map (λ number. length (grouped (suc number) keys)) (range_with_len k (length rest))) (long ∙ next) in
      ap (λ m. m ∷ ends_of m (corners_added g adds (suc n) rest)) end ∙ ap (λ es. length (grouped (suc n) keys) ∷ es) rest_is

  corners_of-vertices_added : corners_of (vertices_added g adds).prims ≡ picked all no_corner (grouped (length g.prims) keys)
  corners_of-vertices_added = from_one_on [] g.prims refl

  pub ends_of-vertices_added : ends_of 0 (vertices_added g adds).prims ≡ group_ends (length g.prims) keys
  ends_of-vertices_added = ends_from_one_on [] g.prims refl

  closed_from : (n : ℕ) (ps : List Primitive) → map (λ p. p.closed) (corners_added g adds n ps) ≡ map (λ p. p.closed) ps
  closed_from n [] = refl
  closed_from n (p ∷ ps) = ap (λ r. p.closed ∷ r) (closed_from (suc n) ps)

  pub refers_of-vertices_added : map (λ c. c.point) (corners_of (vertices_added g adds).prims) ≡ picked (map (λ c. c.point) (corners_of g.prims) ++ map (λ a. a.1) adds) 0 (grouped (length g.prims) keys)
  unfolding no_corner
  refers_of-vertices_added =
      let points = map-append (λ c. c.point) (corners_of g.prims) (map (new_corner g) (map (λ (a : ℕ × ℕ). a.1) adds)) ∙ ap (λ xs. map (λ c. c.point) (corners_of g.prims) ++ xs) (new_points g (map (λ (a : ℕ × ℕ). a.1) adds)) in
      ap (map (λ c. c.point)) corners_of-vertices_added ∙ map_picked (λ c. c.point) all no_corner (grouped (length g.prims) keys) ∙ ap (λ xs. picked xs 0 (grouped (length g.prims) keys)) points

  -- each place is taken once
  pub grouped_counted : All (λ a. a.0 < length g.prims) adds → length (grouped (length g.prims) keys) ≡ length keys
  grouped_counted below =
      let P : ℕ × Corner → Type 0 = λ a. a.0 < length g.prims in
      let many = vertices_of-longer_prims (map (new_place g) adds) g.prims (All-map P (new_place g) adds below) in
      let same = ap (λ ps. length (corners_of ps)) (prims_of-vertices_added g adds) in
      let long = ap length corners_of-vertices_added in
      let order = length-map (grouped (length g.prims) keys) (λ v. get_or all v no_corner) in
      let keyed = length-keys in
      let added = length-map adds (new_place g) in
      omega arith

  pub keys_below : All (λ a. a.0 < length g.prims) adds → All (λ k. k < length g.prims) keys
  keys_below below =
      let P : ℕ → Type 0 = λ k. k < length g.prims in
      All-append P (owners_from 0 g.prims) (map (λ a. a.0) adds) (All-weaker (λ k. k < 0 + length g.prims) P (λ k lt. omega arith) (owners_from 0 g.prims) (owners_below 0 g.prims)) (All-map P (λ (a : ℕ × ℕ). a.0) adds below)

  -- ROWS

  row_same : (old : List Row) (r : Row) (points : List ℕ) (n many : ℕ) → many ≡ length old → n < length old + length points → get_or (old ++ map (λ point. r) points) n empty_row ≡ get_or (old ++ r ∷ []) (min n many) empty_row
  row_same old r points n many many_is lt = elim (cases_lt n (length old)) [
    | inl before ↦
        let same : n ≡ min n many = omega arith in
        get_or_append_left old (map (λ point. r) points) empty_row n before ∙ sym (get_or_append_left old (r ∷ []) empty_row n before) ∙ ap (λ k. get_or (old ++ r ∷ []) k empty_row) same
    | inr behind ↦
        let last : length old ≡ min n many = omega arith in
        get_or-append_right old (map (λ point. r) points) (length old) n empty_row refl behind ∙ get_or-map (λ point. r) points (n - length old) 0 empty_row (omega arith)
        ∙ sym (get_or_at old r [] empty_row (length old) refl) ∙ ap (λ k. get_or (old ++ r ∷ []) k empty_row) last
  ]

  pub rows_of-grouped : (many : ℕ) → many ≡ length (corners_of g.prims) → rows_of (vertices_added g adds) Vertex ≡ picked (rows_of g Vertex ++ default_row g.vertex ∷ []) empty_row (map (λ n. min n many) (grouped (length g.prims) keys))
  unfolding no_corner
  rows_of-grouped many many_is =
      let order = grouped (length g.prims) keys in
      let seconds = map (λ (a : ℕ × ℕ). a.1) adds in
      let old = rows_of g Vertex in
      let rows = map-append (λ c. c.row) (corners_of g.prims) (map (new_corner g) seconds) ∙ ap (λ xs. old ++ xs) (new_rows g seconds) in
      let long = length-map (corners_of g.prims) (λ c. c.row) in
      let added = length-map adds (λ (a : ℕ × ℕ). a.1) in
      let P : ℕ → Type 0 = λ n. n < length keys in
      let Q : ℕ → Type 0 = λ n. get_or (old ++ map (λ point. default_row g.vertex) seconds) n empty_row ≡ get_or (old ++ default_row g.vertex ∷ []) (min n many) empty_row in
      let keyed = length-keys in
      ap (map (λ c. c.row)) corners_of-vertices_added ∙ map_picked (λ c. c.row) all no_corner order ∙ ap (λ xs. picked xs empty_row order) rows
      ∙ map_agree (λ n. get_or (old ++ map (λ point. default_row g.vertex) seconds) n empty_row) (λ n. get_or (old ++ default_row g.vertex ∷ []) (min n many) empty_row) order
      (All-weaker P Q (λ n lt. row_same old (default_row g.vertex) seconds n many (omega arith) (omega arith)) order (grouped_within (length g.prims) keys))
      ∙ twice order
    where
      twice : (ns : List ℕ) → map (λ n. get_or (rows_of g Vertex ++ default_row g.vertex ∷ []) (min n many) empty_row) ns ≡ picked (rows_of g Vertex ++ default_row g.vertex ∷ []) empty_row (map (λ n. min n many) ns)
      twice [] = refl
      twice (n ∷ ns) = ap (λ r. get_or (rows_of g Vertex ++ default_row g.vertex ∷ []) (min n many) empty_row ∷ r) (twice ns)

-- THE SHAPE

module _ (s : ShapeLists) (adds : List (ℕ × ℕ)) (cs : List Bool) (es rs keys order points : List ℕ) (groups : ℕ) (cs_are : cs ≡ s.closed) (groups_are : groups ≡ length s.closed) (es_are : es ≡ group_ends groups keys) (order_is : order ≡ grouped groups keys) (points_are : points ≡ s.refers ++ map (λ a. a.1) adds) (rs_are : rs ≡ picked points 0 order) where
  pub has-vertices_added : (g : Geo) → HasShape g s → keys ≡ keys_with g adds → HasShape (vertices_added g adds) (shape_with cs es rs)
  has-vertices_added g has keys_are =
      let many : length g.prims ≡ groups = omega (arith, prims_counted g s has) in
      let a = closed_from g adds 0 g.prims ∙ sym (closed_is g s has) ∙ sym cs_are in
      let b = ends_of-vertices_added g adds ∙ ap (λ n. group_ends n (keys_with g adds)) many ∙ ap (group_ends groups) (sym keys_are) ∙ sym es_are in
      let c = refers_of-vertices_added g adds ∙ ap (λ n. picked (map (λ c. c.point) (corners_of g.prims) ++ map (λ a. a.1) adds) 0 (grouped n (keys_with g adds))) many
      ∙ ap (λ ks. picked (map (λ c. c.point) (corners_of g.prims) ++ map (λ a. a.1) adds) 0 (grouped groups ks)) (sym keys_are)
      ∙ ap (λ xs. picked (xs ++ map (λ a. a.1) adds) 0 (grouped groups keys)) (sym (refers_is g s has)) ∙ ap (λ xs. picked xs 0 (grouped groups keys)) (sym points_are) ∙ ap (picked points 0) (sym order_is) ∙ sym rs_are in
      λ j. shape_with (a j) (b j) (c j)

  pub is-vertices_added : (is : IsShape s) → keys ≡ keys_with is.geo adds → length order ≡ length s.refers + length adds → length s.refers + length adds ≤ most_vertices → IsShape (shape_with cs es rs)
  is-vertices_added is keys_are many few = record {
    geo = vertices_added is.geo adds;
    has = has-vertices_added is.geo is.has keys_are;
    prims = omega (arith, ap length cs_are, is.prims);
    vertices = omega (arith, ap length rs_are, length-map order (λ n. get_or points n 0));
  }

  pub rows-vertices_added : (g : Geo) → HasShape g s → keys ≡ keys_with g adds → (many : ℕ) (rows : List ℕ) → many ≡ length s.refers → rows ≡ map (λ n. min n many) order → rows_of (vertices_added g adds) Vertex ≡ picked (rows_of g Vertex ++ default_row g.vertex ∷ []) empty_row rows
  rows-vertices_added g has keys_are many rows many_is rows_are =
      let all : length g.prims ≡ groups = omega (arith, prims_counted g s has) in
      rows_of-grouped g adds many (many_is ∙ vertices_counted g s has)
      ∙ ap (λ n. picked (rows_of g Vertex ++ default_row g.vertex ∷ []) empty_row (map (λ n. min n many) (grouped n (keys_with g adds)))) all
      ∙ ap (λ ks. picked (rows_of g Vertex ++ default_row g.vertex ∷ []) empty_row (map (λ n. min n many) (grouped groups ks))) (sym keys_are)
      ∙ ap (λ ns. picked (rows_of g Vertex ++ default_row g.vertex ∷ []) empty_row (map (λ n. min n many) ns)) (sym order_is)
      ∙ ap (picked (rows_of g Vertex ++ default_row g.vertex ∷ []) empty_row) (sym rows_are)

-- WHAT IS GROUPED

module _ (s : ShapeLists) (is : IsShape s) (adds : List (ℕ × ℕ)) (keys : List ℕ) (groups : ℕ) (keys_are : keys ≡ keys_with is.geo adds) (groups_are : groups ≡ length s.closed) (below : All (λ a. a.0 < length s.closed) adds) where
  many_groups : length is.geo.prims ≡ groups
  many_groups = omega (arith, prims_counted is.geo s is.has)

  adds_below : All (λ a. a.0 < length is.geo.prims) adds
  adds_below = subst (λ n. All (λ a. a.0 < n) adds) (prims_counted is.geo s is.has) below

  pub added_below : All (λ k. k < groups) keys
  added_below = subst (All (λ k. k < groups)) (sym keys_are) (subst (λ n. All (λ k. k < n) (keys_with is.geo adds)) many_groups (keys_below is.geo adds adds_below))

  pub added_many : length keys ≡ length s.refers + length adds
  added_many = ap length keys_are ∙ length-keys is.geo adds ∙ ap (λ n. n + length adds) (sym (vertices_counted is.geo s is.has))

  pub added_counted : length (grouped groups keys) ≡ length keys
  added_counted = ap (λ n. length (grouped n keys)) (sym many_groups) ∙ ap (λ ks. length (grouped (length is.geo.prims) ks)) keys_are ∙ grouped_counted is.geo adds adds_below ∙ sym (ap length keys_are)

  pub added_within : (order points : List ℕ) → order ≡ grouped groups keys → points ≡ s.refers ++ map (λ a. a.1) adds → All (λ n. n < length points) order
  added_within order points order_is points_are =
      let P : ℕ → Type 0 = λ n. n < length points in
      let long = ap length points_are ∙ length-append s.refers (map (λ a. a.1) adds) in
      let seconds = length-map adds (λ (a : ℕ × ℕ). a.1) in
      let many = added_many in
      subst (All P) (sym order_is) (All-weaker (λ n. n < length keys) P (λ n lt. omega arith) (grouped groups keys) (grouped_within groups keys))
