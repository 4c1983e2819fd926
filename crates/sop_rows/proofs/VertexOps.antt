-- Vertices added to many primitives: how many there are then, and that what is left is well made and within the limits.
use Rattle.std.proofs.Common.{◌≡◌, ℕ, suc, ◌+◌, ◌<◌, ◌≤◌, Bool, true, false, cond, eqb, List, [], ◌∷◌, ◌++◌, length, map, refl, ap, sym, ◌∙◌, subst, arith, length-append, append_assoc, inl, inr}
use Rattle.std.specs.Prelude.{All, filter}
use Rattle.std.proofs.lemmas.Bool.{cases_Bool, eqb-true, eqb-false, ne_eqb}
use Rattle.std.proofs.lemmas.List.{length-map, map-append}
use Rattle.std.proofs.lemmas.List.Elements.{All-nil, All-cons, All-head, All-tail, All-append, All-weaker, All-map, All-filter, filter-append}
use Rattle.sop_model.specs.declared.class.Class.{Class}
use Rattle.sop_model.specs.declared.class.Class.TheVariants.{Detail, Prim, Point, Vertex}
use Rattle.sop_model.specs.declared.geo.Geo.{Geo}
use Rattle.sop_model.specs.declared.geo.HeadSet.{HeadSet}
use Rattle.sop_model.specs.declared.geo.Corner.{Corner}
use Rattle.sop_model.specs.declared.geo.Primitive.{Primitive}
use Rattle.sop_model.specs.Limits.{most_vertices, most_heads, most_groups}
use Rattle.sop_model.specs.Vertices.{size_of, corners_of, corners_for, with_more, longer_from, longer_prims}
use Rattle.sop_model.specs.Geometry.{heads_of, rows_of, count_of, IsNamed, IsRowOf, IsSound, IsGood, IsWithin}
use Rattle.sop_model.specs.Rows.{new_corner, points_for, vertices_added, ArePlaces}
use Rattle.sop_model.proofs.LimitsLemmas.{IsWithin-from, within_points, within_prims, within_vertices, within_heads, within_groups}
use Rattle.sop_model.proofs.RowLists.{All-left, All-right}
use Rattle.sop_rows.proofs.RowSound.{IsRowOf-default_row}
use Rattle.sop_rows.proofs.ElementOps.{IsSoundCorner, sound_corners}

-- PRIMITIVES WITH FURTHER VERTICES

abbrev longer : List (ℕ × Corner) → ℕ → List Primitive → List Primitive
longer adds n prims = longer_from (λ i. corners_for i adds) n prims

rows_same : (adds : List (ℕ × Corner)) (n : ℕ) (prims : List Primitive) → map (λ p. p.row) (longer adds n prims) ≡ map (λ p. p.row) prims
rows_same adds n [] = refl
rows_same adds n (p ∷ prims) = ap (λ rest. p.row ∷ rest) (rows_same adds (suc n) prims)

length-longer : (adds : List (ℕ × Corner)) (n : ℕ) (prims : List Primitive) → length (longer adds n prims) ≡ length prims
length-longer adds n [] = refl
length-longer adds n (p ∷ prims) = ap suc (length-longer adds (suc n) prims)

one_if : Bool → ℕ
one_if true = 1
one_if false = 0

length-corners_for : (n : ℕ) (a : ℕ × Corner) (adds : List (ℕ × Corner)) → length (corners_for n (a ∷ adds)) ≡ one_if (eqb a.0 n) + length (corners_for n adds)
unfolding one_if
length-corners_for n a adds =
    let rest = filter (λ (a : ℕ × Corner). eqb a.0 n) adds in
    let chosen = λ (b : Bool). length (map (λ (a : ℕ × Corner). a.1) (cond b (a ∷ rest) rest)) in
    elim (cases_Bool (eqb a.0 n)) [
      | inl here ↦
          let long : length (corners_for n (a ∷ adds)) ≡ suc (length (corners_for n adds)) = ap chosen here in
          let one : one_if (eqb a.0 n) ≡ 1 = ap one_if here in
          omega arith
      | inr other ↦
          let long : length (corners_for n (a ∷ adds)) ≡ length (corners_for n adds) = ap chosen other in
          let none : one_if (eqb a.0 n) ≡ 0 = ap one_if other in
          omega arith
    ]

-- how many vertices there are
vertices_in : (adds : List (ℕ × Corner)) (n : ℕ) (p : Primitive) (prims : List Primitive) → length (corners_of (longer adds n (p ∷ prims))) ≡ size_of p + length (corners_for n adds) + length (corners_of (longer adds (suc n) prims))
vertices_in adds n p prims =
    length-append (p.corners ++ corners_for n adds) (corners_of (longer adds (suc n) prims))
    ∙ ap (λ m. m + length (corners_of (longer adds (suc n) prims))) (length-append p.corners (corners_for n adds))

one_before : (a : ℕ × Corner) (adds : List (ℕ × Corner)) (n : ℕ) (prims : List Primitive) → a.0 < n → length (corners_of (longer (a ∷ adds) n prims)) ≡ length (corners_of (longer adds n prims))
unfolding one_if
one_before a adds n [] lt = refl
one_before a adds n (p ∷ prims) lt =
    let rest = one_before a adds (suc n) prims (omega arith) in
    let here = length-corners_for n a adds in
    let other : one_if (eqb a.0 n) ≡ 0 = ap one_if (ne_eqb a.0 n (λ e. omega arith)) in
    let one = vertices_in (a ∷ adds) n p prims in
    let two = vertices_in adds n p prims in
    omega arith

one_more : (a : ℕ × Corner) (adds : List (ℕ × Corner)) (n : ℕ) (prims : List Primitive) → n ≤ a.0 → a.0 < n + length prims → length (corners_of (longer (a ∷ adds) n prims)) ≡ suc (length (corners_of (longer adds n prims)))
unfolding one_if
one_more a adds n [] le lt = absurd (omega arith)
one_more a adds n (p ∷ prims) le lt =
    let here = length-corners_for n a adds in
    let one = vertices_in (a ∷ adds) n p prims in
    let two = vertices_in adds n p prims in
    elim (cases_Bool (eqb a.0 n)) [
      | inl same ↦
          let c : one_if (eqb a.0 n) ≡ 1 = ap one_if same in
          let is = eqb-true a.0 n same in
          let rest = one_before a adds (suc n) prims (omega arith) in
          omega arith
      | inr other ↦
          let c : one_if (eqb a.0 n) ≡ 0 = ap one_if other in
          let ne = eqb-false a.0 n other in
          let above : n < a.0 = omega arith in
          let rest = one_more a adds (suc n) prims (omega arith) (omega arith) in
          omega arith
    ]

none_more : (n : ℕ) (prims : List Primitive) → length (corners_of (longer [] n prims)) ≡ length (corners_of prims)
none_more n [] = refl
none_more n (p ∷ prims) =
    let rest = none_more (suc n) prims in
    let here = vertices_in [] n p prims in
    let both = length-append p.corners (corners_of prims) in
    omega arith

-- as many more as are added
pub vertices_of-longer_prims : (adds : List (ℕ × Corner)) (prims : List Primitive) → All (λ a. a.0 < length prims) adds → length (corners_of (longer_prims adds prims)) ≡ length (corners_of prims) + length adds
vertices_of-longer_prims [] prims all = none_more 0 prims ∙ omega arith
vertices_of-longer_prims (a ∷ adds) prims all =
    let P : ℕ × Corner → Type 0 = λ a. a.0 < length prims in
    let here = All-head P a adds all in
    let rest = vertices_of-longer_prims adds prims (All-tail P a adds all) in
    let step = one_more a adds 0 prims (omega arith) (omega arith) in
    omega arith

-- what holds of the vertices and of each new one
All-longer : (adds : List (ℕ × Corner)) (Q : Corner → Type 0) → All (λ a. Q a.1) adds → (n : ℕ) (prims : List Primitive) → All Q (corners_of prims) → All Q (corners_of (longer adds n prims))
All-longer adds Q new n [] all = all
All-longer adds Q new n (p ∷ prims) all =
    All-append Q (p.corners ++ corners_for n adds) (corners_of (longer adds (suc n) prims))
    (All-append Q p.corners (corners_for n adds) (All-left Q p.corners (corners_of prims) all)
    (All-map Q (λ (a : ℕ × Corner). a.1) (filter (λ a. eqb a.0 n) adds) (All-filter (λ (a : ℕ × Corner). eqb a.0 n) (λ a. Q a.1) adds new)))
    (All-longer adds Q new (suc n) prims (All-right Q p.corners (corners_of prims) all))

sizes_more : (adds : List (ℕ × Corner)) (n : ℕ) (prims : List Primitive) → All (λ p. 0 < size_of p) prims → All (λ p. 0 < size_of p) (longer adds n prims)
sizes_more adds n [] all = all
sizes_more adds n (p ∷ prims) all =
    let P : Primitive → Type 0 = λ p. 0 < size_of p in
    All-cons P (with_more (corners_for n adds) p) (longer adds (suc n) prims)
    (let here = All-head P p prims all in let both = length-append p.corners (corners_for n adds) in omega arith)
    (sizes_more adds (suc n) prims (All-tail P p prims all))

-- one list behind another, and both in a row
pub longer_prims-append : (adds more : List (ℕ × Corner)) (prims : List Primitive) → longer_prims (adds ++ more) prims ≡ longer_prims more (longer_prims adds prims)
longer_prims-append adds more prims = both 0 prims
  where
    corners_both : (n : ℕ) → corners_for n (adds ++ more) ≡ corners_for n adds ++ corners_for n more
    corners_both n =
        ap (map (λ (a : ℕ × Corner). a.1)) (filter-append (λ (a : ℕ × Corner). eqb a.0 n) adds more)
        ∙ map-append (λ (a : ℕ × Corner). a.1) (filter (λ a. eqb a.0 n) adds) (filter (λ a. eqb a.0 n) more)

    both : (n : ℕ) (ps : List Primitive) → longer (adds ++ more) n ps ≡ longer more n (longer adds n ps)
    both n [] = refl
    both n (p ∷ ps) =
        let rest = both (suc n) ps in
        let here = ap (λ cs. p.corners ++ cs) (corners_both n) ∙ sym (append_assoc p.corners (corners_for n adds) (corners_for n more)) in
        λ j. record { closed = p.closed; row = p.row; corners = here j } ∷ rest j

-- VERTICES ADDED TO A GEOMETRY

-- a new vertex for a primitive
abbrev pub new_place : Geo → (ℕ × ℕ) → (ℕ × Corner)
new_place g a = (a.0, new_corner g a.1)

-- the primitives with new vertices, as primitives to which vertices are added
pub prims_of-vertices_added : (g : Geo) (adds : List (ℕ × ℕ)) → (vertices_added g adds).prims ≡ longer_prims (map (new_place g) adds) g.prims
prims_of-vertices_added g adds = by_number 0 g.prims
  where
    same : (n : ℕ) (pairs : List (ℕ × ℕ)) → map (new_corner g) (points_for n pairs) ≡ corners_for n (map (new_place g) pairs)
    same n [] = refl
    same n (a ∷ pairs) =
        let rest = same n pairs in
        elim (cases_Bool (eqb a.0 n)) [
          | inl here ↦
              ap (λ (b : Bool). map (new_corner g) (map (λ (a : ℕ × ℕ). a.1) (cond b (a ∷ filter (λ a. eqb a.0 n) pairs) (filter (λ a. eqb a.0 n) pairs)))) here ∙ ap (λ cs. new_corner g a.1 ∷ cs) rest
              ∙ sym (ap (λ (b : Bool). map (λ (a : ℕ × Corner). a.1) (cond b (new_place g a ∷ filter (λ a. eqb a.0 n) (map (new_place g) pairs)) (filter (λ a. eqb a.0 n) (map (new_place g) pairs)))) here)
          | inr other ↦
              ap (λ (b : Bool). map (new_corner g) (map (λ (a : ℕ × ℕ). a.1) (cond b (a ∷ filter (λ a. eqb a.0 n) pairs) (filter (λ a. eqb a.0 n) pairs)))) other ∙ rest
              ∙ sym (ap (λ (b : Bool). map (λ (a : ℕ × Corner). a.1) (cond b (new_place g a ∷ filter (λ a. eqb a.0 n) (map (new_place g) pairs)) (filter (λ a. eqb a.0 n) (map (new_place g) pairs)))) other)
        ]

    by_number : (n : ℕ) (ps : List Primitive) → longer_from (λ i. map (new_corner g) (points_for i adds)) n ps ≡ longer (map (new_place g) adds) n ps
    by_number n [] = refl
    by_number n (p ∷ ps) =
        let here = same n adds in
        let rest = by_number (suc n) ps in
        λ j. with_more (here j) p ∷ rest j

-- what holds of the vertices and of each new one holds of all
pub All-vertices_added : (g : Geo) (adds : List (ℕ × ℕ)) (Q : Corner → Type 0) → ((point : ℕ) → Q (new_corner g point)) → All Q (corners_of g.prims) → All Q (corners_of (vertices_added g adds).prims)
All-vertices_added g adds Q new all =
    subst (λ ps. All Q (corners_of ps)) (sym (prims_of-vertices_added g adds)) (All-longer (map (new_place g) adds) Q (each adds) 0 g.prims all)
  where
    each : (pairs : List (ℕ × ℕ)) → All (λ a. Q a.1) (map (new_place g) pairs)
    each [] = All-nil (λ a. Q a.1)
    each (a ∷ pairs) = All-cons (λ a. Q a.1) (new_place g a) (map (new_place g) pairs) (new a.1) (each pairs)

module _ (g : Geo) (adds : List (ℕ × ℕ)) where
  pub heads_of-vertices_added : (class : Class) → heads_of (vertices_added g adds) class ≡ heads_of g class
  heads_of-vertices_added Detail = refl
  heads_of-vertices_added Prim = refl
  heads_of-vertices_added Point = refl
  heads_of-vertices_added Vertex = refl

  pub rows_of-vertices_added : rows_of (vertices_added g adds) Prim ≡ rows_of g Prim
  rows_of-vertices_added = ap (map (λ p. p.row)) (prims_of-vertices_added g adds) ∙ rows_same (map (new_place g) adds) 0 g.prims

  vertices_all : ArePlaces g adds → length (corners_of (vertices_added g adds).prims) ≡ length (corners_of g.prims) + length adds
  vertices_all are =
      let P : ℕ × Corner → Type 0 = λ a. a.0 < length g.prims in
      ap (λ ps. length (corners_of ps)) (prims_of-vertices_added g adds)
      ∙ vertices_of-longer_prims (map (new_place g) adds) g.prims
      (All-map P (new_place g) adds (All-weaker (λ (a : ℕ × ℕ). (a.0 < count_of g Prim) × (a.1 < count_of g Point)) (λ a. a.0 < length g.prims)
      (λ a both. let e = length-map g.prims (λ p. p.row) in let l = both.0 in omega arith) adds are))
      ∙ ap (λ n. length (corners_of g.prims) + n) (length-map adds (new_place g))

  pub vertices_of-vertices_added : ArePlaces g adds → count_of (vertices_added g adds) Vertex ≡ count_of g Vertex + length adds
  vertices_of-vertices_added are =
      length-map (corners_of (vertices_added g adds).prims) (λ c. c.row) ∙ vertices_all are ∙ ap (λ n. n + length adds) (sym (length-map (corners_of g.prims) (λ c. c.row)))

  all_sound : IsSound g → ArePlaces g adds → All (IsSoundCorner g) (corners_of (vertices_added g adds).prims)
  all_sound sound are =
      let Q : ℕ × Corner → Type 0 = λ a. IsSoundCorner g a.1 in
      subst (λ ps. All (IsSoundCorner g) (corners_of ps)) (sym (prims_of-vertices_added g adds)) (All-longer (map (new_place g) adds) (IsSoundCorner g)
      (All-map Q (new_place g) adds (All-weaker (λ (a : ℕ × ℕ). (a.0 < count_of g Prim) × (a.1 < count_of g Point)) (λ a. IsSoundCorner g (new_corner g a.1)) (λ a both. (IsRowOf-default_row g.vertex, both.1)) adds are))
      0 g.prims (sound_corners g sound))

  rows_of_more : IsSound g → ArePlaces g adds → (class : Class) → All (IsRowOf (heads_of (vertices_added g adds) class)) (rows_of (vertices_added g adds) class)
  rows_of_more sound are Detail = sound.rows Detail
  rows_of_more sound are Prim = subst (All (IsRowOf g.prim)) (sym rows_of-vertices_added) (sound.rows Prim)
  rows_of_more sound are Point = sound.rows Point
  rows_of_more sound are Vertex =
      All-map (IsRowOf g.vertex) (λ c. c.row) (corners_of (vertices_added g adds).prims)
      (All-weaker (IsSoundCorner g) (λ c. IsRowOf g.vertex c.row) (λ c both. both.0) (corners_of (vertices_added g adds).prims) (all_sound sound are))

  pub IsSound-vertices_added : IsSound g → ArePlaces g adds → IsSound (vertices_added g adds)
  IsSound-vertices_added sound are = record {
    detail_groups = sound.detail_groups;
    named = λ class. subst IsNamed (sym (heads_of-vertices_added class)) (sound.named class);
    rows = rows_of_more sound are;
    position = sound.position;
    points = All-weaker (IsSoundCorner g) (λ c. c.point < length g.points) (λ c both. both.1) (corners_of (vertices_added g adds).prims) (all_sound sound are);
  }

  pub IsGood-vertices_added : IsGood g → ArePlaces g adds → IsGood (vertices_added g adds)
  IsGood-vertices_added good are = record { sound = IsSound-vertices_added good.sound are; corners = subst (All (λ p. 0 < size_of p)) (sym (prims_of-vertices_added g adds)) (sizes_more (map (new_place g) adds) 0 g.prims good.corners) }

  pub IsWithin-vertices_added : IsWithin g → ArePlaces g adds → count_of g Vertex + length adds ≤ most_vertices → IsWithin (vertices_added g adds)
  IsWithin-vertices_added within are few =
      IsWithin-from (vertices_added g adds)
      (within_points within)
      (let a = ap length (prims_of-vertices_added g adds) ∙ length-longer (map (new_place g) adds) 0 g.prims in let b = (within_prims within) in omega arith)
      (let a = vertices_all are in let b = length-map (corners_of g.prims) (λ c. c.row) in omega arith)
      (λ class. subst (λ (set : HeadSet). length set.heads ≤ most_heads) (sym (heads_of-vertices_added class)) (within_heads within class))
      (λ class. subst (λ (set : HeadSet). length set.groups ≤ most_groups) (sym (heads_of-vertices_added class)) (within_groups within class))

  -- and no further
  pub few-vertices_added : IsWithin (vertices_added g adds) → ArePlaces g adds → count_of g Vertex + length adds ≤ most_vertices
  few-vertices_added within are = let a = (within_vertices within) in let b = vertices_all are in let c = length-map (corners_of g.prims) (λ c. c.row) in omega arith

pub vertices_added-append : (g : Geo) (adds more : List (ℕ × ℕ)) → vertices_added g (adds ++ more) ≡ vertices_added (vertices_added g adds) more
vertices_added-append g adds more =
    let both = prims_of-vertices_added g (adds ++ more) ∙ ap (λ all. longer_prims all g.prims) (map-append (new_place g) adds more)
    ∙ longer_prims-append (map (new_place g) adds) (map (new_place g) more) g.prims
    ∙ ap (longer_prims (map (new_place g) more)) (sym (prims_of-vertices_added g adds)) ∙ sym (prims_of-vertices_added (vertices_added g adds) more) in
    λ j. record g { prims = both j }
