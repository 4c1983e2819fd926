-- Shapes within the limits, and primitives that come to them.
use Rattle.std.proofs.Common.{◌≡◌, ℕ, zero, suc, ◌+◌, ◌*◌, ◌<◌, ◌≤◌, Bool, true, List, [], ◌∷◌, ◌++◌, length, map, refl, sym, ap, ◌∙◌, subst, arith, length-append}
use Rattle.std.specs.Prelude.{All, Some}
use Rattle.std.specs.List.{range_with_len}
use Rattle.std.proofs.lemmas.List.{length-map}
use Rattle.std.proofs.lemmas.List.FromFn.{length-range_with_len, get_or-range_with_len, map-range_with_len_more}
use Rattle.std.proofs.lemmas.List.Elements.{All-from_get_or}
use Rattle.sop_fixed.specs.declared.vec3.Vec3.{Vec3}
use Rattle.sop_model.specs.declared.geo.Geo.{Geo}
use Rattle.sop_model.specs.declared.geo.Primitive.{Primitive}
use Rattle.sop_model.specs.Limits.{most_points, most_prims, most_vertices}
use Rattle.sop_model.specs.Vertices.{corners_of}
use Rattle.sop_model.specs.Geometry.{IsWithin}
use Rattle.sop_model.specs.Rows.{prim_added, ArePoints}
use Rattle.sop_model.specs.Plain.{point_row}
use Rattle.sop_model.proofs.PlainLimits.{IsWithin-from_only}
use Rattle.sop_vault.specs.Keyed.{at}
use Rattle.sop_vault.specs.Vaults.{VaultMap}
use Rattle.sop_basic.specs.Making.{HasPoints}
use Rattle.sop_basic.proofs.MakingLemmas.{same_there}
use Rattle.sop_basic.specs.Shapes.{shape, prim_through, corner_on, closed_prims}

pub shape_within : (places : List Vec3) (prims : List Primitive) → length places ≤ most_points → length prims ≤ most_prims → length (corners_of prims) ≤ most_vertices → IsWithin (shape places prims)
shape_within places prims points few vertices =
    IsWithin-from_only (shape places prims) (record { detail = refl; prim = refl; point = refl; vertex = refl }) (let long = length-map places point_row in omega arith) few vertices

-- a primitive behind those of a shape
pub added_to_shape : (places : List Vec3) (prims : List Primitive) (closed : Bool) (points : List ℕ) → prim_added (shape places prims) closed points ≡ shape places (prims ++ prim_through closed points ∷ [])
added_to_shape places prims closed points = refl

pub vertices_behind : (prims : List Primitive) (closed : Bool) (points : List ℕ) → length (corners_of (prims ++ prim_through closed points ∷ [])) ≡ length (corners_of prims) + length points
vertices_behind [] closed points = let long = length-map points corner_on in omega (arith, length-append (map corner_on points) [])
vertices_behind (p ∷ prims) closed points = omega (arith, length-append p.corners (corners_of (prims ++ prim_through closed points ∷ [])), length-append p.corners (corners_of prims), vertices_behind prims closed points)

pub points_of_shape : (places : List Vec3) (prims : List Primitive) (numbers : List ℕ) → All (λ p. p < length places) numbers → ArePoints (shape places prims) numbers
points_of_shape places prims numbers below = let long = length-map places point_row in subst (λ n. All (λ p. p < n) numbers) (sym long) below

pub all_below : (n : ℕ) → All (λ p. p < n) (range_with_len 0 n)
all_below n = All-from_get_or (λ p. p < n) (range_with_len 0 n) 0 (λ i lt. let long = length-range_with_len 0 n in let is = get_or-range_with_len 0 n i 0 (omega arith) in omega arith)

-- closed primitives of four vertices each
module _ (corners : ℕ → List ℕ) where
  pub prims_long : (n : ℕ) → length (closed_prims corners n) ≡ n
  prims_long n = length-map (range_with_len 0 n) (λ i. prim_through true (corners i)) ∙ length-range_with_len 0 n

  pub prims_more : (n : ℕ) → closed_prims corners (n + 1) ≡ closed_prims corners n ++ prim_through true (corners n) ∷ []
  prims_more n = map-range_with_len_more (λ i. prim_through true (corners i)) 0 n n (omega arith)

  pub prims_vertices : ((i : ℕ) → length (corners i) ≡ 4) → (n : ℕ) → length (corners_of (closed_prims corners n)) ≡ 4 * n
  prims_vertices four zero = refl
  prims_vertices four (suc n) =
      let next : suc n ≡ n + 1 = omega arith in
      ap (λ k. length (corners_of (closed_prims corners k))) next ∙ ap (λ (ps : List Primitive). length (corners_of ps)) (prims_more n)
      ∙ vertices_behind (closed_prims corners n) true (corners n) ∙ (let f = four n in let rest = prims_vertices four n in omega arith)

pub range_more : (a n : ℕ) → range_with_len a (n + 1) ≡ range_with_len a n ++ (a + n) ∷ []
range_more a zero = let e : a ≡ a + 0 = omega arith in ap (λ k. k ∷ []) e
range_more a (suc n) =
    let next : suc n + 1 ≡ suc (n + 1) = omega arith in
    let last : (a + 1) + n ≡ a + suc n = omega arith in
    ap (range_with_len a) next ∙ ap (λ xs. a ∷ xs) (range_more (a + 1) n) ∙ ap (λ k. (a ∷ range_with_len (a + 1) n) ++ k ∷ []) last

-- the points at a key, and one primitive through all of them
module _ (v : VaultMap) (key count : ℕ) (has : HasPoints v key) (numbers : List ℕ) (are : numbers ≡ range_with_len 0 count) (many : length has.places ≡ count) where
  pub through_points : (g : Geo) → at v.geos key ≡ Some g → ArePoints g numbers
  through_points g there =
      let same = same_there (at v.geos key) (shape has.places []) g has.there there in
      let below = points_of_shape has.places [] numbers (subst (λ xs. All (λ p. p < length has.places) xs) (sym are) (subst (λ n. All (λ p. p < n) (range_with_len 0 count)) (sym many) (all_below count))) in
      subst (λ (x : Geo). ArePoints x numbers) same below

  pub through_room : (closed : Bool) (g : Geo) → at v.geos key ≡ Some g → IsWithin (prim_added g closed numbers)
  through_room closed g there =
      let same = same_there (at v.geos key) (shape has.places []) g has.there there in
      let long : length numbers ≡ count = ap (λ (xs : List ℕ). length xs) are ∙ length-range_with_len 0 count in
      let vertices = vertices_behind [] closed numbers in
      subst (λ (x : Geo). IsWithin (prim_added x closed numbers)) same
      (shape_within has.places (prim_through closed numbers ∷ []) has.few (omega arith) (let few = has.few in omega arith))

-- as many places as a shape has points
pub places_long : (a b : List Vec3) (ps qs : List Primitive) → shape a ps ≡ shape b qs → length a ≡ length b
places_long a b ps qs same = sym (length-map a point_row) ∙ ap (λ (g : Geo). length g.points) same ∙ length-map b point_row
