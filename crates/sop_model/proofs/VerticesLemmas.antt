-- Lemmas on the numbers of vertices.
use Rattle.std.proofs.Common.{◌≡◌, ℕ, zero, suc, ◌+◌, ◌-◌, ◌<◌, ◌≤◌, true, false, leb, List, [], ◌∷◌, ◌++◌, length, take, get_or, Some, refl, inl, inr, sym, ◌∙◌, ap, subst, arith, length-append}
use Rattle.std.specs.Prelude.{sum_by, slice_get, unwrap_or}
use Rattle.std.specs.List.Sorted.{IsNonDecreasingBy, IsPartitionPoint}
use Rattle.std.proofs.lemmas.Option.{unwrap_or-slice_get, none-some}
use Rattle.std.proofs.lemmas.Bool.{cases_lt}
use Rattle.std.proofs.lemmas.List.{take_all, take-take}
use Rattle.std.proofs.lemmas.List.Concat.{length-flat_map}
use Rattle.std.proofs.lemmas.List.Sums.{sum_by-cons, sum_by-take-le}
use Rattle.std.proofs.lemmas.Bool.Decides.{nat_tests}
use Rattle.sop_model.specs.declared.geo.Primitive.{Primitive}
use Rattle.sop_model.specs.Vertices.{size_of, corners_of, first_vertex_in, prim_in, ends_of}

pub length-ends_of : (before : ℕ) (prims : List Primitive) → length (ends_of before prims) ≡ length prims
length-ends_of before [] = refl
length-ends_of before (p ∷ prims) = ap suc (length-ends_of (before + size_of p) prims)

pub ends_of-append : (before : ℕ) (prims more : List Primitive) → ends_of before (prims ++ more) ≡ ends_of before prims ++ ends_of (before + sum_by size_of prims) more
ends_of-append before [] more = ap (λ n. ends_of n more) (omega arith)
ends_of-append before (p ∷ prims) more =
    let step : before + size_of p + sum_by size_of prims ≡ before + sum_by size_of (p ∷ prims) = omega (arith, sum_by-cons size_of p prims) in
    ap (λ rest. (before + size_of p) ∷ rest) (ends_of-append (before + size_of p) prims more ∙ ap (λ n. ends_of (before + size_of p) prims ++ ends_of n more) step)

pub ends_of-push : (before : ℕ) (prims : List Primitive) (p : Primitive) → ends_of before (prims ++ p ∷ []) ≡ ends_of before prims ++ (before + sum_by size_of prims + size_of p) ∷ []
ends_of-push before prims p = ends_of-append before prims (p ∷ [])

pub ends_of-take : (before n : ℕ) (prims : List Primitive) → take n (ends_of before prims) ≡ ends_of before (take n prims)
ends_of-take before zero prims = refl
ends_of-take before (suc n) [] = refl
ends_of-take before (suc n) (p ∷ prims) = ap (λ rest. (before + size_of p) ∷ rest) (ends_of-take (before + size_of p) n prims)

-- the ends without the last
pub ends_left : (ends left : List ℕ) (prims kept : List Primitive) (m n : ℕ) → ends ≡ ends_of 0 prims → left ≡ take (m - 1) ends → kept ≡ take (n - 1) prims → m ≡ length ends → n ≡ length prims → left ≡ ends_of 0 kept
ends_left ends left prims kept m n is cut kept_is m_is n_is =
    let same : m ≡ n = omega (arith, ap length is, length-ends_of 0 prims) in
    cut ∙ ap (λ k. take (k - 1) ends) same ∙ ap (take (n - 1)) is ∙ ends_of-take 0 (n - 1) prims ∙ ap (ends_of 0) (sym kept_is)

pub get_or-ends_of : (before : ℕ) (prims : List Primitive) (i d : ℕ) → i < length prims → get_or (ends_of before prims) i d ≡ before + first_vertex_in prims (suc i)
get_or-ends_of before [] i d lt = absurd (omega arith)
get_or-ends_of before (p ∷ prims) zero d lt = omega (arith, sum_by-cons size_of p [])
get_or-ends_of before (p ∷ prims) (suc i) d lt =
    let rest = get_or-ends_of (before + size_of p) prims i d (omega arith) in
    omega (arith, rest, sum_by-cons size_of p (take (suc i) prims))

-- the number before place i of the ends is the number of the first vertex of primitive i
pub end_before : (ends : List ℕ) (prims : List Primitive) (i e : ℕ) → ends ≡ ends_of 0 prims → 0 < i → i ≤ length prims → e ≡ get_or ends (i - 1) e → e ≡ first_vertex_in prims i
end_before ends prims zero e is pos within read = absurd (omega arith)
end_before ends prims (suc i) e is pos within read =
    let place : suc i - 1 ≡ i = omega arith in
    let lt : i < length prims = omega arith in
    read ∙ ap (λ k. get_or ends k e) place ∙ ap (λ xs. get_or xs i e) is ∙ get_or-ends_of 0 prims i e lt ∙ omega arith

last_end : (prims : List Primitive) → get_or (ends_of 0 prims) (length prims - 1) 0 ≡ sum_by size_of prims
last_end [] = refl
last_end (p ∷ prims) =
    let place : suc (length prims) - 1 ≡ length prims = omega arith in
    let lt : length prims < suc (length prims) = omega arith in
    let whole = p ∷ prims in
    ap (λ k. get_or (ends_of 0 whole) k 0) place ∙ get_or-ends_of 0 whole (length prims) 0 lt ∙ omega (arith, ap (sum_by size_of) (take_all (length whole) whole (omega arith)))

-- the ends with the end of one more primitive
pub ends_pushed : (ends : List ℕ) (prims : List Primitive) (p : Primitive) (before end : ℕ) → ends ≡ ends_of 0 prims → before ≡ unwrap_or (slice_get ends (length ends - 1)) 0 → end ≡ before + size_of p → ends ++ end ∷ [] ≡ ends_of 0 (prims ++ p ∷ [])
ends_pushed ends prims p before end is before_is end_is =
    let places : length ends ≡ length prims = ap length is ∙ length-ends_of 0 prims in
    let read : before ≡ get_or (ends_of 0 prims) (length prims - 1) 0 = before_is ∙ unwrap_or-slice_get ends (length ends - 1) 0 ∙ ap (λ n. get_or ends (n - 1) 0) places ∙ ap (λ xs. get_or xs (length prims - 1) 0) is in
    let value : end ≡ 0 + sum_by size_of prims + size_of p = omega (arith, last_end prims) in
    ap (λ xs. xs ++ end ∷ []) is ∙ ap (λ n. ends_of 0 prims ++ n ∷ []) value ∙ sym (ends_of-push 0 prims p)

-- the place where the ends pass a number is the primitive that has the vertex of this number
pub prim_in-from_ends : (before : ℕ) (prims : List Primitive) (vertex i : ℕ) → i ≤ length prims → ((k : ℕ) → k < i → get_or (ends_of before prims) k 0 ≤ before + vertex) → (i < length prims → before + vertex < get_or (ends_of before prims) i 0) → prim_in prims vertex ≡ i
prim_in-from_ends before [] vertex i within below above = omega arith
prim_in-from_ends before (p ∷ prims) vertex zero within below above =
    let lt : vertex < size_of p = omega (arith, above (omega arith)) in
    grind (arith, nat_tests)
prim_in-from_ends before (p ∷ prims) vertex (suc i) within below above =
    let ge : size_of p ≤ vertex = omega (arith, below 0 (omega arith)) in
    let rest = prim_in-from_ends (before + size_of p) prims (vertex - size_of p) i (omega arith) (λ k lt. omega (arith, below (suc k) (omega arith))) (λ lt. omega (arith, above (omega arith))) in
    grind (arith, nat_tests)

-- there are as many vertices as stand before the end of the last primitive
pub length-corners_of : (prims : List Primitive) → length (corners_of prims) ≡ first_vertex_in prims (length prims)
length-corners_of prims = length-flat_map (λ p. p.corners) prims ∙ ap (sum_by size_of) (sym (take_all (length prims) prims (omega arith)))

pub first_vertex_in-le : (prims : List Primitive) (i : ℕ) → first_vertex_in prims i ≤ length (corners_of prims)
first_vertex_in-le prims i = omega (arith, sum_by-take-le size_of prims i, length-flat_map (λ p. p.corners) prims)

pub ends_of-rise : (before : ℕ) (prims : List Primitive) → IsNonDecreasingBy (λ (n : ℕ). n) (ends_of before prims)
ends_of-rise before prims i j d le lt =
    let within : j < length prims = omega (arith, length-ends_of before prims) in
    let part : suc i ≤ suc j = omega arith in
    omega (arith, get_or-ends_of before prims i d (omega arith), get_or-ends_of before prims j d within, sum_by-take-le size_of (take (suc j) prims) (suc i), ap (sum_by size_of) (take-take (suc i) (suc j) prims part))

pub prim_in-from_point : (prims : List Primitive) (vertex i : ℕ) → i ≤ length prims → IsPartitionPoint (λ n. leb n vertex ≡ true) (λ n. leb n vertex ≡ false) (ends_of 0 prims) i → i ≡ prim_in prims vertex
prim_in-from_point prims vertex i within point =
    sym (prim_in-from_ends 0 prims vertex i within (λ k lt. let passed = point.0 k 0 (omega arith) lt in grind (arith, nat_tests)) (λ lt. let not_passed = point.1 i 0 (omega arith) (omega (arith, length-ends_of 0 prims)) in grind (arith, nat_tests)))

prim_in-here : (p : Primitive) (prims : List Primitive) (vertex : ℕ) → vertex < size_of p → prim_in (p ∷ prims) vertex ≡ 0
prim_in-here p prims vertex lt = grind (arith, nat_tests)

prim_in-later : (p : Primitive) (prims : List Primitive) (vertex : ℕ) → size_of p ≤ vertex → prim_in (p ∷ prims) vertex ≡ suc (prim_in prims (vertex - size_of p))
prim_in-later p prims vertex le = grind (arith, nat_tests)

pub prim_in-le : (prims : List Primitive) (vertex : ℕ) → prim_in prims vertex ≤ length prims
prim_in-le [] vertex = omega arith
prim_in-le (p ∷ prims) vertex =
    let rest = prim_in-le prims (vertex - size_of p) in
    grind (arith, nat_tests)

-- where the vertex of a number stands
pub record VertexAt (prims : List Primitive) (vertex i : ℕ) : Type 0 where
  pub in_range : i < length prims
  pub first : first_vertex_in prims i ≤ vertex
  pub inside : (p : Primitive) → slice_get prims i ≡ Some p → vertex - first_vertex_in prims i < length p.corners
  pub same : (p : Primitive) → slice_get prims i ≡ Some p → slice_get (corners_of prims) vertex ≡ slice_get p.corners (vertex - first_vertex_in prims i)

slice_get-append_left : {X : Type 0} (xs ys : List X) (i : ℕ) → i < length xs → slice_get (xs ++ ys) i ≡ slice_get xs i
slice_get-append_left [] ys i lt = absurd (omega arith)
slice_get-append_left (x ∷ xs) ys zero lt = refl
slice_get-append_left (x ∷ xs) ys (suc i) lt = slice_get-append_left xs ys i (omega arith)

slice_get-append_right : {X : Type 0} (xs ys : List X) (i : ℕ) → length xs ≤ i → slice_get (xs ++ ys) i ≡ slice_get ys (i - length xs)
slice_get-append_right [] ys i le = ap (slice_get ys) (omega arith)
slice_get-append_right (x ∷ xs) ys zero le = absurd (omega arith)
slice_get-append_right (x ∷ xs) ys (suc i) le = slice_get-append_right xs ys i (omega arith) ∙ ap (slice_get ys) (omega arith)

vertex_here : (p : Primitive) (prims : List Primitive) (vertex : ℕ) → vertex < size_of p → VertexAt (p ∷ prims) vertex 0
vertex_here p prims vertex lt = record {
  in_range = omega arith;
  first = omega arith;
  inside = λ q is. let same : p ≡ q = cc in omega (arith, ap size_of same);
  same = λ q is. let same : p ≡ q = cc in slice_get-append_left p.corners (corners_of prims) vertex lt ∙ ap (λ q. slice_get q.corners vertex) same ∙ ap (slice_get q.corners) (omega arith);
}

vertex_later : (p : Primitive) (prims : List Primitive) (vertex i : ℕ) → size_of p ≤ vertex → VertexAt prims (vertex - size_of p) i → VertexAt (p ∷ prims) vertex (suc i)
vertex_later p prims vertex i le rest =
    let first = sum_by-cons size_of p (take i prims) in
    record {
      in_range = omega (arith, rest.in_range);
      first = omega (arith, rest.first);
      inside = λ q is. omega (arith, rest.inside q is);
      same = λ q is. slice_get-append_right p.corners (corners_of prims) vertex le ∙ rest.same q is ∙ ap (slice_get q.corners) (omega arith);
    }

pub vertex_at : (prims : List Primitive) (vertex : ℕ) → vertex < length (corners_of prims) → VertexAt prims vertex (prim_in prims vertex)
vertex_at [] vertex lt = absurd (omega arith)
vertex_at (p ∷ prims) vertex lt = elim (cases_lt vertex (size_of p)) [
  | inl here ↦ subst (VertexAt (p ∷ prims) vertex) (sym (prim_in-here p prims vertex here)) (vertex_here p prims vertex here)
  | inr later ↦ subst (VertexAt (p ∷ prims) vertex) (sym (prim_in-later p prims vertex later)) (vertex_later p prims vertex (prim_in prims (vertex - size_of p)) later (vertex_at prims (vertex - size_of p) (omega (arith, length-append p.corners (corners_of prims)))))
]

pub vertex_found : (prims : List Primitive) (vertex number i : ℕ) → vertex < length (corners_of prims) → number ≡ vertex → i ≡ prim_in prims number → VertexAt prims vertex i
vertex_found prims vertex number i lt same is = subst (VertexAt prims vertex) (sym (is ∙ ap (prim_in prims) same)) (vertex_at prims vertex lt)

pub size_of-le : (prims : List Primitive) (i : ℕ) (p : Primitive) → slice_get prims i ≡ Some p → size_of p ≤ length (corners_of prims)
size_of-le [] i p is = absurd (none-some p is)
size_of-le (q ∷ prims) zero p is = let same : q ≡ p = cc in omega (arith, ap size_of same, length-append q.corners (corners_of prims))
size_of-le (q ∷ prims) (suc i) p is = omega (arith, size_of-le prims i p is, length-append q.corners (corners_of prims))
