-- What the lists of a shape say of a geometry that has it.
use Rattle.std.proofs.Common.{◌≡◌, ℕ, suc, ◌+◌, ◌-◌, ◌<◌, ◌≤◌, Bool, List, [], length, map, get_or, Some, ap, sym, ◌∙◌, subst, arith}
use Rattle.std.specs.Prelude.{slice_get}
use Rattle.std.specs.Option.{option_map}
use Rattle.std.proofs.lemmas.Option.{slice_get-get_or}
use Rattle.std.proofs.lemmas.List.{length-map}
use Rattle.std.proofs.lemmas.List.Sums.{sum_by_more}
use Rattle.sop_model.specs.declared.class.Class.TheVariants.{Prim, Vertex}
use Rattle.sop_model.specs.declared.geo.Geo.{Geo}
use Rattle.sop_model.specs.Geometry.{empty_geo, count_of}
use Rattle.sop_model.specs.Rows.{no_prim}
use Rattle.sop_model.specs.Vertices.{size_of, corners_of, first_vertex_in, ends_of}
use Rattle.sop_model.proofs.VerticesLemmas.{length-ends_of, get_or-ends_of, end_before, first_vertex_in-le}
use Rattle.sop_shape.specs.Shapes.{ShapeLists, shape_with, HasShape, IsShape}

module _ (g : Geo) (s : ShapeLists) (has : HasShape g s) where
  pub closed_is : s.closed ≡ map (λ p. p.closed) g.prims
  closed_is = sym (ap (λ s. s.closed) has)

  pub ends_is : s.ends ≡ ends_of 0 g.prims
  ends_is = sym (ap (λ s. s.ends) has)

  pub refers_is : s.refers ≡ map (λ c. c.point) (corners_of g.prims)
  refers_is = sym (ap (λ s. s.refers) has)

  pub prims_counted : length s.closed ≡ length g.prims
  prims_counted = ap length closed_is ∙ length-map g.prims (λ p. p.closed)

  pub ends_counted : length s.ends ≡ length g.prims
  ends_counted = ap length ends_is ∙ length-ends_of 0 g.prims

  pub vertices_counted : length s.refers ≡ length (corners_of g.prims)
  vertices_counted = ap length refers_is ∙ length-map (corners_of g.prims) (λ c. c.point)

  pub count_prims : length s.closed ≡ count_of g Prim
  count_prims = prims_counted ∙ sym (length-map g.prims (λ p. p.row))

  pub count_vertices : length s.refers ≡ count_of g Vertex
  count_vertices = vertices_counted ∙ sym (length-map (corners_of g.prims) (λ c. c.row))

  pub end_at : (i x : ℕ) → i < length s.closed → x ≡ get_or s.ends i x → x ≡ first_vertex_in g.prims (i + 1)
  end_at i x lt read =
      let place : suc i ≡ i + 1 = omega arith in
      let within : i < length g.prims = omega (arith, prims_counted) in
      read ∙ ap (λ xs. get_or xs i x) ends_is ∙ get_or-ends_of 0 g.prims i x within ∙ omega (arith, ap (first_vertex_in g.prims) place)

  pub first_at : (i x : ℕ) → 0 < i → i < length s.closed → x ≡ get_or s.ends (i - 1) x → x ≡ first_vertex_in g.prims i
  first_at i x pos lt read = end_before s.ends g.prims i x ends_is pos (omega (arith, prims_counted)) read

  pub size_more : (i : ℕ) → i < length s.closed → first_vertex_in g.prims (i + 1) ≡ first_vertex_in g.prims i + size_of (get_or g.prims i no_prim)
  size_more i lt = sum_by_more size_of g.prims i no_prim (omega (arith, prims_counted))

  pub first_below : (i first end : ℕ) → i < length s.closed → first ≡ first_vertex_in g.prims i → end ≡ first_vertex_in g.prims (i + 1) → first ≤ end
  first_below i first end lt first_is end_is = omega (arith, size_more i lt)

  pub size_at : (i first end : ℕ) → i < length s.closed → first ≡ first_vertex_in g.prims i → end ≡ first_vertex_in g.prims (i + 1) → option_map size_of (slice_get g.prims i) ≡ Some (end - first)
  size_at i first end lt first_is end_is =
      let size : size_of (get_or g.prims i no_prim) ≡ end - first = omega (arith, size_more i lt) in
      ap (option_map size_of) (slice_get-get_or g.prims i no_prim (omega (arith, prims_counted))) ∙ ap Some size

-- each primitive ends somewhere
pub ends_as_many : (s : ShapeLists) → IsShape s → length s.ends ≡ length s.closed
ends_as_many s is = ends_counted is.geo s is.has ∙ sym (prims_counted is.geo s is.has)

pub empty_is : (closed : List Bool) (ends refers : List ℕ) → closed ≡ [] → ends ≡ [] → refers ≡ [] → IsShape (shape_with closed ends refers)
empty_is closed ends refers no_closed no_ends no_refers = record {
  geo = empty_geo;
  has = λ j. shape_with (sym no_closed j) (sym no_ends j) (sym no_refers j);
  prims = omega (arith, ap length no_closed);
  vertices = omega (arith, ap length no_refers);
}

-- the shape that lists are, by equal lists
pub same_is : (s : ShapeLists) (closed : List Bool) (ends refers : List ℕ) → IsShape s → closed ≡ s.closed → ends ≡ s.ends → refers ≡ s.refers → IsShape (shape_with closed ends refers)
same_is s closed ends refers is closed_same ends_same refers_same =
    subst IsShape (λ j. shape_with (sym closed_same j) (sym ends_same j) (sym refers_same j)) is

-- and none behind the last vertex
pub ends_within : (s : ShapeLists) → IsShape s → (k d : ℕ) → k < length s.ends → get_or s.ends k d ≤ length s.refers
ends_within s is k d lt =
    let many = ends_counted is.geo s is.has in
    let end = ap (λ es. get_or es k d) (ends_is is.geo s is.has) ∙ get_or-ends_of 0 is.geo.prims k d (omega arith) in
    let few = first_vertex_in-le is.geo.prims (suc k) in
    let vertices = vertices_counted is.geo s is.has in
    omega arith
