-- Lists that are made item by item from what is read of a geometry.
use Rattle.std.proofs.Common.{◌≡◌, ℕ, ◌+◌, ◌<◌, ◌≤◌, Bool, List, [], ◌∷◌, ◌++◌, length, map, get_or, take, refl, ap, sym, ◌∙◌, arith, zero, suc}
use Rattle.std.specs.Prelude.{slice_get, Some}
use Rattle.std.specs.Option.{option_map}
use Rattle.std.proofs.lemmas.Option.{slice_get-get_or}
use Rattle.std.proofs.lemmas.List.{take_more, map-append, get_or_default, get_or_read, length-map}
use Rattle.std.proofs.lemmas.List.Sums.{sum_by_more}
use Rattle.sop_model.specs.declared.geo.Geo.{Geo}
use Rattle.sop_model.specs.Geometry.{IsReadable}
use Rattle.sop_model.proofs.LimitsLemmas.{within_prims, within_vertices}
use Rattle.sop_model.proofs.VerticesLemmas.{first_vertex_in-le}
use Rattle.sop_shape.specs.Shapes.{shape_with, HasShape, IsShape}
use Rattle.sop_model.specs.declared.geo.Primitive.{Primitive}
use Rattle.sop_model.specs.Vertices.{size_of, corners_of, first_vertex_in, ends_of}
use Rattle.sop_model.specs.Rows.{no_prim, picked}
use Rattle.sop_model.proofs.PrimitivesLemmas.{ends_of-more}

module _ {X Y : Type 0} (f : X → Y) (xs : List X) (i : ℕ) where
  -- what is read of one item more
  pub made_more : (d : X) (y : Y) (made new : List Y) → i < length xs → option_map f (slice_get xs i) ≡ Some y → made ≡ map f (take i xs) → new ≡ made ++ y ∷ [] → new ≡ map f (take (i + 1) xs)
  made_more d y made new lt read made_is new_is =
      let found : Some (f (get_or xs i d)) ≡ Some y = ap (option_map f) (sym (slice_get-get_or xs i d lt)) ∙ read in
      let same : f (get_or xs i d) ≡ y = cc in
      new_is ∙ ap (λ ys. ys ++ y ∷ []) made_is ∙ ap (λ z. map f (take i xs) ++ z ∷ []) (sym same) ∙ sym (map-append f (take i xs) (get_or xs i d ∷ [])) ∙ ap (map f) (sym (take_more xs i d lt))

-- one end more
pub end_more : (prims : List Primitive) (i first size : ℕ) (made new : List ℕ) → i < length prims → first ≡ first_vertex_in prims i → option_map size_of (slice_get prims i) ≡ Some size → made ≡ ends_of 0 (take i prims) → new ≡ made ++ (first + size) ∷ [] → new ≡ ends_of 0 (take (i + 1) prims)
end_more prims i first size made new lt first_is read made_is new_is =
    let p = get_or prims i no_prim in
    let found : Some (size_of p) ≡ Some size = ap (option_map size_of) (sym (slice_get-get_or prims i no_prim lt)) ∙ read in
    let same : size_of p ≡ size = cc in
    new_is ∙ ap (λ es. es ++ (first + size) ∷ []) made_is ∙ ap (λ n. ends_of 0 (take i prims) ++ (first + n) ∷ []) (sym same) ∙ sym (ends_of-more prims i first p lt (get_or_same prims i lt) first_is)
  where
    get_or_same : (ps : List Primitive) (k : ℕ) → k < length ps → get_or ps k no_prim ≡ get_or ps k (get_or ps k no_prim)
    get_or_same [] k lt = absurd (omega arith)
    get_or_same (q ∷ ps) zero lt = refl
    get_or_same (q ∷ ps) (suc k) lt = get_or_default ps k no_prim (get_or ps k no_prim) (omega arith)

pub end_fits : (prims : List Primitive) (i first size : ℕ) → i < length prims → first ≡ first_vertex_in prims i → option_map size_of (slice_get prims i) ≡ Some size → first + size ≤ length (corners_of prims)
end_fits prims i first size lt first_is read =
    let found : Some (size_of (get_or prims i no_prim)) ≡ Some size = ap (option_map size_of) (sym (slice_get-get_or prims i no_prim lt)) ∙ read in
    let same : size_of (get_or prims i no_prim) ≡ size = cc in
    let more = sum_by_more size_of prims i no_prim lt in
    let few = first_vertex_in-le prims (i + 1) in
    omega arith

-- the shape of a geometry that is read
module _ (g : Geo) (closed : List Bool) (ends refers : List ℕ) (closed_are : closed ≡ map (λ p. p.closed) g.prims) (ends_are : ends ≡ ends_of 0 g.prims) (refers_are : refers ≡ map (λ c. c.point) (corners_of g.prims)) where
  pub read_has : HasShape g (shape_with closed ends refers)
  read_has j = shape_with (sym closed_are j) (sym ends_are j) (sym refers_are j)

  pub read_is : IsReadable g → IsShape (shape_with closed ends refers)
  read_is readable = record {
    geo = g;
    has = read_has;
    prims = omega (arith, ap length closed_are, length-map g.prims (λ p. p.closed), within_prims readable.within);
    vertices = omega (arith, ap length refers_are, length-map (corners_of g.prims) (λ c. c.point), within_vertices readable.within);
  }

-- one item more that is picked
pub pick_more : {X : Type 0} (xs : List X) (places : List ℕ) (k : ℕ) (x d : X) (made new : List X) → k < length places → get_or places k 0 < length xs → x ≡ get_or xs (get_or places k 0) x → made ≡ picked xs d (take k places) → new ≡ made ++ x ∷ []
    → new ≡ picked xs d (take (k + 1) places)
pick_more xs places k x d made new lt within read made_is new_is =
    let same : x ≡ get_or xs (get_or places k 0) d = get_or_read xs (get_or places k 0) x within read d in
    new_is ∙ ap (λ ys. ys ++ x ∷ []) made_is ∙ ap (λ y. picked xs d (take k places) ++ y ∷ []) same ∙ sym (map-append (λ i. get_or xs i d) (take k places) (get_or places k 0 ∷ [])) ∙ ap (picked xs d) (sym (take_more places k 0 lt))
