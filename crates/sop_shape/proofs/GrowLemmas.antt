-- The shape of a geometry with a primitive more, and of one behind another.
use Rattle.std.proofs.Common.{◌≡◌, ℕ, ◌+◌, ◌<◌, ◌≤◌, Bool, List, [], ◌∷◌, ◌++◌, length, map, refl, ap, sym, ◌∙◌, arith, length-append}
use Rattle.std.specs.Prelude.{sum_by}
use Rattle.std.proofs.lemmas.List.{length-map, map-append}
use Rattle.std.proofs.lemmas.List.Concat.{length-flat_map}
use Rattle.sop_model.specs.declared.class.Class.TheVariants.{Point}
use Rattle.sop_model.specs.declared.geo.Geo.{Geo}
use Rattle.sop_model.specs.declared.geo.Primitive.{Primitive}
use Rattle.sop_model.specs.Limits.{most_prims, most_vertices}
use Rattle.sop_model.specs.Geometry.{count_of, IsSound}
use Rattle.sop_model.specs.Vertices.{size_of, corners_of, ends_of}
use Rattle.sop_model.specs.Rows.{new_corner, new_prim, prim_added, renumbered}
use Rattle.sop_model.specs.Appending.{appended}
use Rattle.sop_model.proofs.VerticesLemmas.{ends_of-append, ends_of-push}
use Rattle.sop_rows.proofs.ElementOps.{corners_of-append}
use Rattle.sop_rows.proofs.OrderOps.{sizes_of-renumbered}
use Rattle.sop_rows.proofs.PartLemmas.{closed_of-prim_added, refers_of-prim_added, closed_of-renumbered, refers_of-renumbered}
use Rattle.sop_rows.proofs.AppendedParts.{closed_of-appended, sizes_of-appended, refers_of-appended}
use Rattle.sop_shape.specs.Shapes.{ShapeLists, shape_with, HasShape, IsShape}
use Rattle.sop_shape.proofs.ReadLemmas.{closed_is, ends_is, refers_is, vertices_counted}

-- A PRIMITIVE MORE

vertices_summed : (g : Geo) (s : ShapeLists) → HasShape g s → length s.refers ≡ sum_by size_of g.prims
vertices_summed g s has = vertices_counted g s has ∙ length-flat_map (λ p. p.corners) g.prims

module _ (closed : Bool) (points : List ℕ) (s : ShapeLists) (cs : List Bool) (es rs : List ℕ) (cs_are : cs ≡ s.closed ++ closed ∷ []) (es_are : es ≡ s.ends ++ (length s.refers + length points) ∷ []) (rs_are : rs ≡ s.refers ++ points) where
  pub has-prim_added : (g : Geo) → HasShape g s → HasShape (prim_added g closed points) (shape_with cs es rs)
  has-prim_added g has =
      let size : 0 + sum_by size_of g.prims + size_of (new_prim g closed points) ≡ length s.refers + length points = omega (arith, length-map points (new_corner g), vertices_summed g s has) in
      let a = closed_of-prim_added g closed points ∙ ap (λ xs. xs ++ closed ∷ []) (sym (closed_is g s has)) ∙ sym cs_are in
      let b = ends_of-push 0 g.prims (new_prim g closed points) ∙ ap (λ n. ends_of 0 g.prims ++ n ∷ []) size ∙ ap (λ xs. xs ++ (length s.refers + length points) ∷ []) (sym (ends_is g s has)) ∙ sym es_are in
      let c = refers_of-prim_added g closed points ∙ ap (λ xs. xs ++ points) (sym (refers_is g s has)) ∙ sym rs_are in
      λ j. shape_with (a j) (b j) (c j)

  pub is-prim_added : IsShape s → length s.closed < most_prims → length s.refers + length points ≤ most_vertices → IsShape (shape_with cs es rs)
  is-prim_added is few_prims few_vertices = record {
    geo = prim_added is.geo closed points;
    has = has-prim_added is.geo is.has;
    prims = omega (arith, ap length cs_are, length-append s.closed (closed ∷ []));
    vertices = omega (arith, ap length rs_are, length-append s.refers points);
  }

-- BOTH IN A ROW

-- ends hang on the sizes alone
pub ends_by_sizes : (before : ℕ) (ps qs : List Primitive) → map size_of ps ≡ map size_of qs → ends_of before ps ≡ ends_of before qs
ends_by_sizes before [] [] same = refl
ends_by_sizes before [] (q ∷ qs) same = cc
ends_by_sizes before (p ∷ ps) [] same = cc
ends_by_sizes before (p ∷ ps) (q ∷ qs) same =
    let here : size_of p ≡ size_of q = cc in
    let left : map size_of ps ≡ map size_of qs = cc in
    ap (λ n. (before + n) ∷ ends_of (before + n) ps) here ∙ ap (λ rest. (before + size_of q) ∷ rest) (ends_by_sizes (before + size_of q) ps qs left)

ends_moved : (by before : ℕ) (ps : List Primitive) → ends_of (by + before) ps ≡ map (λ n. by + n) (ends_of before ps)
ends_moved by before [] = refl
ends_moved by before (p ∷ ps) =
    let place : by + before + size_of p ≡ by + (before + size_of p) = omega arith in
    ap (λ n. n ∷ ends_of n ps) place ∙ ap (λ rest. (by + (before + size_of p)) ∷ rest) (ends_moved by (before + size_of p) ps)

-- a geometry that has the primitives of one and then those of another, with the points of these moved
pub record IsBoth (g a b : Geo) (points : ℕ) : Type 0 where
  pub closed : map (λ p. p.closed) g.prims ≡ map (λ p. p.closed) a.prims ++ map (λ p. p.closed) b.prims
  pub sizes : map size_of g.prims ≡ map size_of a.prims ++ map size_of b.prims
  pub refers : map (λ c. c.point) (corners_of g.prims) ≡ map (λ c. c.point) (corners_of a.prims) ++ map (λ n. points + n) (map (λ c. c.point) (corners_of b.prims))

pub both-appended : (a b : Geo) (points : ℕ) → IsSound a → IsSound b → count_of a Point ≡ points → IsBoth (appended a b) a b points
both-appended a b points one two many = record {
  closed = closed_of-appended a b one two;
  sizes = sizes_of-appended a b one two;
  refers = refers_of-appended a b one two ∙ ap (λ k. map (λ c. c.point) (corners_of a.prims) ++ map (λ n. k + n) (map (λ c. c.point) (corners_of b.prims))) many;
}

-- the first with the primitives of the second moved
abbrev in_a_row : Geo → Geo → ℕ → Geo
in_a_row a b points = record a { prims = a.prims ++ map (renumbered (λ n. points + n)) b.prims }

both-in_a_row : (a b : Geo) (points : ℕ) → IsBoth (in_a_row a b points) a b points
both-in_a_row a b points =
    let moved = map (renumbered (λ n. points + n)) b.prims in
    record {
      closed = map-append (λ p. p.closed) a.prims moved ∙ ap (λ xs. map (λ p. p.closed) a.prims ++ xs) (closed_of-renumbered (λ n. points + n) b.prims);
      sizes = map-append size_of a.prims moved ∙ ap (λ xs. map size_of a.prims ++ xs) (sizes_of-renumbered (λ n. points + n) b.prims);
      refers =
          ap (map (λ c. c.point)) (corners_of-append a.prims moved) ∙ map-append (λ c. c.point) (corners_of a.prims) (corners_of moved)
          ∙ ap (λ xs. map (λ c. c.point) (corners_of a.prims) ++ xs) (refers_of-renumbered (λ n. points + n) b.prims);
    }

module _ (points : ℕ) (s t : ShapeLists) (cs : List Bool) (es rs : List ℕ) (cs_are : cs ≡ s.closed ++ t.closed) (es_are : es ≡ s.ends ++ map (λ n. length s.refers + n) t.ends) (rs_are : rs ≡ s.refers ++ map (λ n. points + n) t.refers) where
  pub has-both : (g a b : Geo) → IsBoth g a b points → HasShape a s → HasShape b t → HasShape g (shape_with cs es rs)
  has-both g a b both one two =
      let many : 0 + sum_by size_of a.prims ≡ length s.refers + 0 = omega (arith, vertices_summed a s one) in
      let x = both.closed ∙ ap (λ xs. xs ++ map (λ p. p.closed) b.prims) (sym (closed_is a s one)) ∙ ap (λ xs. s.closed ++ xs) (sym (closed_is b t two)) ∙ sym cs_are in
      let y = ends_by_sizes 0 g.prims (a.prims ++ b.prims) (both.sizes ∙ sym (map-append size_of a.prims b.prims)) ∙ ends_of-append 0 a.prims b.prims ∙ ap (λ n. ends_of 0 a.prims ++ ends_of n b.prims) many
      ∙ ap (λ xs. ends_of 0 a.prims ++ xs) (ends_moved (length s.refers) 0 b.prims) ∙ ap (λ xs. xs ++ map (λ n. length s.refers + n) (ends_of 0 b.prims)) (sym (ends_is a s one))
      ∙ ap (λ xs. s.ends ++ map (λ n. length s.refers + n) xs) (sym (ends_is b t two)) ∙ sym es_are in
      let z = both.refers ∙ ap (λ xs. xs ++ map (λ n. points + n) (map (λ c. c.point) (corners_of b.prims))) (sym (refers_is a s one)) ∙ ap (λ xs. s.refers ++ map (λ n. points + n) xs) (sym (refers_is b t two)) ∙ sym rs_are in
      λ j. shape_with (x j) (y j) (z j)

  pub has-appended : (a b : Geo) → IsSound a → IsSound b → HasShape a s → HasShape b t → count_of a Point ≡ points → HasShape (appended a b) (shape_with cs es rs)
  has-appended a b sound_a sound_b one two many = has-both (appended a b) a b (both-appended a b points sound_a sound_b many) one two

  pub is-both : IsShape s → IsShape t → length s.closed + length t.closed ≤ most_prims → length s.refers + length t.refers ≤ most_vertices → IsShape (shape_with cs es rs)
  is-both one two few_prims few_vertices = record {
    geo = in_a_row one.geo two.geo points;
    has = has-both (in_a_row one.geo two.geo points) one.geo two.geo (both-in_a_row one.geo two.geo points) one.has two.has;
    prims = omega (arith, ap length cs_are, length-append s.closed t.closed);
    vertices = omega (arith, ap length rs_are, length-append s.refers (map (λ n. points + n) t.refers), length-map t.refers (λ n. points + n));
  }
