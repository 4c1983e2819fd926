-- Tests by flags and the tests of the sweep, one number more of each list that a pass makes, and which primitives stay.
use Rattle.std.proofs.Common.{◌≡◌, ℕ, zero, suc, ◌+◌, ◌-◌, ◌<◌, ◌≤◌, Bool, true, false, not, cond, ◌&&◌, ◌||◌, eqb, ltb, List, [], ◌∷◌, ◌++◌, length, map, get_or, take, replicate, refl, ap, sym, ◌∙◌, subst, arith, inl, inr, length-append}
use Rattle.std.specs.Prelude.{All, sum_by}
use Rattle.std.specs.List.{range_with_len}
use Rattle.std.proofs.lemmas.Bool.{cases_Bool, cases_lt, or_left, or_right, lt-ltb, le-ltb, not_from_true}
use Rattle.std.proofs.lemmas.List.{length-replicate, take-take, get_or_default, get_or-replicate, get_or_append_left, get_or-append_right}
use Rattle.std.proofs.lemmas.List.FromFn.{length-map-range_with_len, get_or-map-range_with_len, map-range_with_len_more, fill_by_all}
use Rattle.std.proofs.lemmas.List.Sums.{sum_by_more, sum_by-take-le}
use Rattle.std.proofs.lemmas.List.Elements.{All-nil, All-cons, All-weaker}
use Rattle.sop_model.specs.declared.class.Class.TheVariants.{Prim, Point, Vertex}
use Rattle.sop_model.specs.declared.geo.Geo.{Geo}
use Rattle.sop_model.specs.declared.geo.Primitive.{Primitive}
use Rattle.sop_model.specs.Vertices.{size_of, corners_of, first_vertex_in, prim_in, ends_of}
use Rattle.sop_model.specs.Rows.{no_prim}
use Rattle.sop_model.specs.Sweep.{MarkSet, is_marked, some_from, point_under, vertex_goes, keeps_vertex, is_given_up, is_used, stays, kept, how_many}
use Rattle.sop_model.proofs.RowLists.{map_agree}
use Rattle.sop_model.proofs.VerticesLemmas.{get_or-ends_of, length-ends_of, prim_in-from_ends, first_vertex_in-le}
use Rattle.sop_rows.proofs.KeptLemmas.{how_many-lt, none_passes}
use Rattle.sop_shape.specs.Shapes.{ShapeLists, HasShape, IsShape}
use Rattle.sop_shape.specs.Groups.{owners_from}
use Rattle.sop_shape.specs.Tests.{number_at, vertex_test, gives_up, is_touched, point_test, grows, flags_of, AreCounts, AreTouched}
use Rattle.sop_shape.proofs.ReadLemmas.{ends_is, refers_is, prims_counted, vertices_counted, ends_counted, count_vertices}
use Rattle.sop_shape.proofs.AddLemmas.{length-owners, owners_below, read_alike}

-- TESTS THAT AGREE

range_within : (a n : ℕ) → All (λ i. i < a + n) (range_with_len a n)
range_within a zero = All-nil (λ i. i < a + 0)
range_within a (suc n) =
    let P : ℕ → Type 0 = λ i. i < a + suc n in
    All-cons P a (range_with_len (a + 1) n) (omega arith) (All-weaker (λ i. i < a + 1 + n) P (λ i lt. omega arith) (range_with_len (a + 1) n) (range_within (a + 1) n))

module _ (t u : ℕ → Bool) where
  pub flags_agree : (n : ℕ) → ((i : ℕ) → i < n → t i ≡ u i) → flags_of t n ≡ flags_of u n
  flags_agree n same = map_agree t u (range_with_len 0 n) (All-weaker (λ i. i < 0 + n) (λ i. t i ≡ u i) (λ i lt. same i (omega arith)) (range_with_len 0 n) (range_within 0 n))

  pub kept_agree : {X : Type 0} (n : ℕ) (xs : List X) → ((i : ℕ) → n ≤ i → i < n + length xs → t i ≡ u i) → kept t n xs ≡ kept u n xs
  kept_agree n [] same = refl
  kept_agree n (x ∷ xs) same =
      ap (λ (b : Bool). cond b (x ∷ kept t (suc n) xs) (kept t (suc n) xs)) (same n (omega arith) (omega arith)) ∙ ap (λ ys. cond (u n) (x ∷ ys) ys) (kept_agree (suc n) xs (λ i le lt. same i (omega arith) (omega arith)))

  pub how_many_agree : (n : ℕ) → ((i : ℕ) → i < n → t i ≡ u i) → how_many t n ≡ how_many u n
  how_many_agree zero same = refl
  how_many_agree (suc n) same =
      ap (λ k. k + cond (t n) 1 0) (how_many_agree n (λ i lt. same i (omega arith))) ∙ ap (λ (b : Bool). how_many u n + cond b 1 0) (same n (omega arith))

  some_agree : (n k : ℕ) → ((i : ℕ) → n ≤ i → i < n + k → t i ≡ u i) → some_from t n k ≡ some_from u n k
  some_agree n zero same = refl
  some_agree n (suc k) same =
      ap (λ (b : Bool). b || some_from t (suc n) k) (same n (omega arith) (omega arith)) ∙ ap (λ (b : Bool). u n || b) (some_agree (suc n) k (λ i le lt. same i (omega arith) (omega arith)))

-- a flag of a test
pub flag_is : (t : ℕ → Bool) (n i : ℕ) → i < n → is_marked (flags_of t n) i ≡ t i
flag_is t n i lt = get_or-map-range_with_len t 0 n i i false lt (omega arith)

pub length-flags : (t : ℕ → Bool) (n : ℕ) → length (flags_of t n) ≡ n
length-flags t n = length-map-range_with_len t 0 n

-- one flag more
pub flags_more : (t : ℕ → Bool) (k : ℕ) (b : Bool) (made new : List Bool) → b ≡ t k → made ≡ flags_of t k → new ≡ made ++ b ∷ [] → new ≡ flags_of t (k + 1)
flags_more t k b made new b_is made_is new_is = new_is ∙ ap (λ xs. xs ++ b ∷ []) made_is ∙ ap (λ c. flags_of t k ++ c ∷ []) b_is ∙ sym (map-range_with_len_more t 0 k k (omega arith))

-- TOUCHED POINTS

some_more : (t : ℕ → Bool) (n k : ℕ) → some_from t n (k + 1) ≡ (some_from t n k || t (n + k))
some_more t n zero = let place : n ≡ n + 0 = omega arith in by_or (t n) (t (n + 0)) (ap t place)
  where
    by_or : (a b : Bool) → a ≡ b → (a || false) ≡ (false || b)
    by_or true b same = same
    by_or false b same = same
some_more t n (suc k) =
    let place : suc n + k ≡ n + suc k = omega arith in
    let less : suc k + 1 ≡ suc (k + 1) = omega arith in
    ap (some_from t n) less ∙ ap (λ b. t n || b) (some_more t (suc n) k ∙ ap (λ m. some_from t (suc n) k || t m) place) ∙ or_assoc (t n) (some_from t (suc n) k) (t (n + suc k))
  where
    or_assoc : (a b c : Bool) → (a || (b || c)) ≡ ((a || b) || c)
    or_assoc true b c = refl
    or_assoc false b c = refl

-- the points that the vertices so far touch
pub record IsTouching (flags : List Bool) (refers : List ℕ) (points k : ℕ) (made : List Bool) : Type 0 where
  pub long : length made ≡ points
  pub each : (point : ℕ) → point < points → is_marked made point ≡ some_from (λ vertex. is_marked flags vertex && eqb (number_at refers vertex) point) 0 k

pub touching_more : (flags : List Bool) (refers : List ℕ) (points k i : ℕ) (on : Bool) (made new : List Bool) → i ≡ number_at refers k → on ≡ is_marked flags k → length new ≡ length made
    → ((point : ℕ) → is_marked new point ≡ (is_marked made point || (on && eqb i point))) → IsTouching flags refers points k made → IsTouching flags refers points (k + 1) new
touching_more flags refers points k i on made new i_is on_is long each touching = record {
  long = long ∙ touching.long;
  each = λ point lt.
      let test = λ (vertex : ℕ). is_marked flags vertex && eqb (number_at refers vertex) point in
      let place : k ≡ 0 + k = omega arith in
      each point ∙ ap (λ b. b || (on && eqb i point)) (touching.each point lt) ∙ ap (λ b. some_from test 0 k || (b && eqb i point)) on_is ∙ ap (λ n. some_from test 0 k || (is_marked flags k && eqb n point)) i_is
      ∙ ap (λ m. some_from test 0 k || test m) place ∙ sym (some_more test 0 k);
}

-- a flag that is read at a point
pub touched_read : (flags : List Bool) (refers : List ℕ) (points point : ℕ) (on : Bool) (made : List Bool) → AreTouched flags refers points made → point < points → on ≡ get_or made point on → on ≡ is_touched flags refers point
touched_read flags refers points point on made are lt read = read ∙ get_or_default made point on false (omega (arith, are.long)) ∙ are.each point lt

-- ONE END MORE

pub grows_more : (t : ℕ → Bool) (before : ℕ) (ends : List ℕ) (k : ℕ) → k < length ends → grows t before (take (k + 1) ends) ≡ grows t before (take k ends) ++ ltb (how_many t (get_or (before ∷ ends) k 0)) (how_many t (get_or ends k 0)) ∷ []
grows_more t before [] k lt = absurd (omega arith)
grows_more t before (e ∷ ends) zero lt = refl
grows_more t before (e ∷ ends) (suc k) lt =
    let less : suc k + 1 ≡ suc (k + 1) = omega arith in
    ap (λ n. grows t before (take n (e ∷ ends))) less ∙ ap (λ bs. ltb (how_many t before) (how_many t e) ∷ bs) (grows_more t e ends k (omega arith))

pub length-grows : (t : ℕ → Bool) (before : ℕ) (ends : List ℕ) → length (grows t before ends) ≡ length ends
length-grows t before [] = refl
length-grows t before (e ∷ ends) = ap suc (length-grows t e ends)

pub grows_at : (t : ℕ → Bool) (before : ℕ) (ends : List ℕ) (k : ℕ) → k < length ends → is_marked (grows t before ends) k ≡ ltb (how_many t (get_or (before ∷ ends) k 0)) (how_many t (get_or ends k 0))
grows_at t before [] k lt = absurd (omega arith)
grows_at t before (e ∷ ends) zero lt = refl
grows_at t before (e ∷ ends) (suc k) lt = grows_at t e ends k (omega arith)

-- one more by counts
pub prim_more : (flags : List Bool) (ends : List ℕ) (k before count : ℕ) (counts : List ℕ) (b : Bool) (made new : List Bool) → k < length ends → get_or ends k 0 ≤ length flags → AreCounts flags counts → count ≡ get_or counts (get_or ends k 0) count
    → before ≡ how_many (is_marked flags) (get_or (0 ∷ ends) k 0) → b ≡ ltb before count → made ≡ grows (is_marked flags) 0 (take k ends) → new ≡ made ++ b ∷ []
    → (new ≡ grows (is_marked flags) 0 (take (k + 1) ends)) × (count ≡ how_many (is_marked flags) (get_or (0 ∷ ends) (k + 1) 0))
prim_more flags ends k before count counts b made new lt within are count_is before_is b_is made_is new_is =
    let t = is_marked flags in
    let end = get_or ends k 0 in
    let next : suc k ≡ k + 1 = omega arith in
    let value : count ≡ how_many t end = count_is ∙ get_or_default counts end count 0 (omega (arith, are.long)) ∙ are.each end within in (
      new_is ∙ ap (λ xs. xs ++ b ∷ []) made_is ∙ ap (λ c. grows t 0 (take k ends) ++ c ∷ []) (b_is ∙ ap (λ n. ltb n count) before_is ∙ ap (ltb (how_many t (get_or (0 ∷ ends) k 0))) value) ∙ sym (grows_more t 0 ends k lt),
      value ∙ ap (λ n. how_many t (get_or (0 ∷ ends) n 0)) next,
    )

-- OWNERS

pub owner_at : (n : ℕ) (ps : List Primitive) (v d : ℕ) → v < length (corners_of ps) → get_or (owners_from n ps) v d ≡ n + prim_in ps v
owner_at n [] v d lt = absurd (omega arith)
owner_at n (p ∷ ps) v d lt =
    let own = replicate (size_of p) n in
    let long = length-replicate (size_of p) n in
    let both = length-append p.corners (corners_of ps) in
    let found = λ (b : Bool). cond b 0 (suc (prim_in ps (v - size_of p))) in
    elim (cases_lt v (size_of p)) [
      | inl here ↦
          let first : prim_in (p ∷ ps) v ≡ 0 = ap found (lt-ltb v (size_of p) here) in
          get_or_append_left own (owners_from (suc n) ps) d v (omega arith) ∙ get_or-replicate (size_of p) v n d here ∙ omega arith
      | inr later ↦
          let next : prim_in (p ∷ ps) v ≡ suc (prim_in ps (v - size_of p)) = ap found (le-ltb v (size_of p) later) in
          let rest = owner_at (suc n) ps (v - size_of p) d (omega arith) in
          get_or-append_right own (owners_from (suc n) ps) (size_of p) v d long later ∙ rest ∙ omega arith
    ]

-- SOME PASS WHERE THE COUNT GROWS

pub some_counted : (t : ℕ → Bool) (n k : ℕ) → ltb (how_many t n) (how_many t (n + k)) ≡ some_from t n k
some_counted t n zero = let place : n + 0 ≡ n = omega arith in ap (λ m. ltb (how_many t n) (how_many t m)) place ∙ le-ltb (how_many t n) (how_many t n) (omega arith)
some_counted t n (suc k) =
    let place : suc n + k ≡ n + suc k = omega arith in
    elim (cases_Bool (t n)) [
      | inl passes ↦ lt-ltb (how_many t n) (how_many t (n + suc k)) (how_many-lt t n (n + suc k) (omega arith) passes) ∙ sym (or_left (t n) (some_from t (suc n) k) passes)
      | inr fails ↦
          let same : how_many t (suc n) ≡ how_many t n = ap (λ (b : Bool). how_many t n + cond b 1 0) fails ∙ omega arith in
          ap (λ m. ltb m (how_many t (n + suc k))) (sym same) ∙ ap (λ m. ltb (how_many t (suc n)) (how_many t m)) (sym place) ∙ some_counted t (suc n) k ∙ sym (ap (λ (b : Bool). b || some_from t (suc n) k) fails)
    ]

-- WHAT STAYS OF A GEOMETRY

module _ (g : Geo) (s : ShapeLists) (has : HasShape g s) (m : MarkSet) where
  module _ (owners : List ℕ) (owners_are : owners ≡ owners_from 0 g.prims) where
    owner_is : (v : ℕ) → v < length s.refers → number_at owners v ≡ prim_in g.prims v
    owner_is v lt = ap (λ ns. get_or ns v 0) owners_are ∙ owner_at 0 g.prims v 0 (omega (arith, vertices_counted g s has)) ∙ omega arith

    point_is : (v : ℕ) → number_at s.refers v ≡ point_under g v
    point_is v = ap (λ ns. get_or ns v 0) (refers_is g s has)

    pub vertex_is : (v : ℕ) → v < length s.refers → vertex_test m owners s.refers v ≡ stays g m Vertex v
    vertex_is v lt =
        ap (λ n. not (is_marked m.vertices v || is_marked m.prims n || is_marked m.points (number_at s.refers v))) (owner_is v lt) ∙ ap (λ n. not (is_marked m.vertices v || is_marked m.prims (prim_in g.prims v) || is_marked m.points n)) (point_is v)

    used_is : (point : ℕ) → is_touched (flags_of (stays g m Vertex) (length s.refers)) s.refers point ≡ is_used g m point
    used_is point =
        let flags = flags_of (stays g m Vertex) (length s.refers) in
        let t = λ (v : ℕ). is_marked flags v && eqb (number_at s.refers v) point in
        let u = λ (v : ℕ). not (vertex_goes g m v) && eqb (point_under g v) point in
        some_agree t u 0 (length s.refers) (λ v le lt. ap (λ b. b && eqb (number_at s.refers v) point) (flag_is (stays g m Vertex) (length s.refers) v (omega arith)) ∙ ap (λ n. stays g m Vertex v && eqb n point) (point_is v))
        ∙ ap (some_from u 0) (count_vertices g s has)

    given_is : (point : ℕ) → is_touched (flags_of (gives_up m owners) (length s.refers)) s.refers point ≡ is_given_up g m point
    given_is point =
        let flags = flags_of (gives_up m owners) (length s.refers) in
        let t = λ (v : ℕ). is_marked flags v && eqb (number_at s.refers v) point in
        let u = λ (v : ℕ). is_marked m.prims (prim_in g.prims v) && is_marked m.with_points (prim_in g.prims v) && eqb (point_under g v) point in
        some_agree t u 0 (length s.refers)
        (λ v le lt.
        ap (λ b. b && eqb (number_at s.refers v) point) (flag_is (gives_up m owners) (length s.refers) v (omega arith)) ∙ ap (λ n. is_marked m.prims n && is_marked m.with_points n && eqb (number_at s.refers v) point) (owner_is v (omega arith))
        ∙ ap (λ n. is_marked m.prims (prim_in g.prims v) && is_marked m.with_points (prim_in g.prims v) && eqb n point) (point_is v))
        ∙ ap (some_from u 0) (count_vertices g s has)

    pub point_stays_is : (point : ℕ) → point_test m.points (is_touched (flags_of (gives_up m owners) (length s.refers)) s.refers) (is_touched (flags_of (stays g m Vertex) (length s.refers)) s.refers) point ≡ stays g m Point point
    point_stays_is point =
        ap (λ b. not (is_marked m.points point || (b && not (is_touched (flags_of (stays g m Vertex) (length s.refers)) s.refers point)))) (given_is point) ∙ ap (λ b. not (is_marked m.points point || (is_given_up g m point && not b))) (used_is point)

  -- PRIMITIVES

  first_le : (a b : ℕ) → a ≤ b → first_vertex_in g.prims a ≤ first_vertex_in g.prims b
  first_le a b le = let part = sum_by-take-le size_of (take b g.prims) a in let same = ap (sum_by size_of) (take-take a b g.prims le) in omega arith

  prim_of_own : (i v : ℕ) → i < length g.prims → first_vertex_in g.prims i ≤ v → v < first_vertex_in g.prims (suc i) → prim_in g.prims v ≡ i
  prim_of_own i v lt from below =
      prim_in-from_ends 0 g.prims v i (omega arith) (λ k before. let end = get_or-ends_of 0 g.prims k 0 (omega arith) in let le = first_le (suc k) i (omega arith) in omega arith) (λ last. let end = get_or-ends_of 0 g.prims i 0 lt in omega arith)

  keeps_only : (marked some : Bool) → (marked ≡ true → some ≡ false) → not (marked || not some) ≡ some
  keeps_only true some none = sym (none refl)
  keeps_only false true none = refl
  keeps_only false false none = refl

  pub prim_stays_is : (i : ℕ) → i < length g.prims → stays g m Prim i ≡ ltb (how_many (stays g m Vertex) (first_vertex_in g.prims i)) (how_many (stays g m Vertex) (first_vertex_in g.prims (suc i)))
  prim_stays_is i lt =
      let t = stays g m Vertex in
      let first = first_vertex_in g.prims i in
      let size = get_or (map size_of g.prims) i 0 in
      let next : suc i ≡ i + 1 = omega arith in
      let more = sum_by_more size_of g.prims i no_prim lt in
      let read = read_alike size_of g.prims no_prim i in
      let same = ap (first_vertex_in g.prims) next in
      let end : first + size ≡ first_vertex_in g.prims (suc i) = omega arith in
      keeps_only (is_marked m.prims i) (keeps_vertex g m i) (λ marked. none_passes t first size (λ v le below. not_from_true (vertex_goes g m v) (goes marked v le (omega arith))))
      ∙ sym (some_counted t first size) ∙ ap (λ n. ltb (how_many t first) (how_many t n)) end
    where
      goes : is_marked m.prims i ≡ true → (v : ℕ) → first_vertex_in g.prims i ≤ v → v < first_vertex_in g.prims (suc i) → vertex_goes g m v ≡ true
      goes marked v le below =
          or_left (is_marked m.vertices v || is_marked m.prims (prim_in g.prims v)) (is_marked m.points (point_under g v))
          (or_right (is_marked m.vertices v) (is_marked m.prims (prim_in g.prims v)) (ap (is_marked m.prims) (prim_of_own i v lt le below) ∙ marked))

  -- where a primitive's vertices begin and end
  start_at : (i : ℕ) → i < length g.prims → get_or (0 ∷ ends_of 0 g.prims) i 0 ≡ first_vertex_in g.prims i
  start_at zero lt = refl
  start_at (suc i) lt = get_or-ends_of 0 g.prims i 0 (omega arith) ∙ omega arith

  pub prim_stays_by_ends : (i : ℕ) → i < length g.prims → stays g m Prim i ≡ ltb (how_many (stays g m Vertex) (get_or (0 ∷ ends_of 0 g.prims) i 0)) (how_many (stays g m Vertex) (get_or (ends_of 0 g.prims) i 0))
  prim_stays_by_ends i lt =
      let t = stays g m Vertex in
      let end : first_vertex_in g.prims (suc i) ≡ get_or (ends_of 0 g.prims) i 0 = sym (get_or-ends_of 0 g.prims i 0 lt ∙ omega arith) in
      prim_stays_is i lt ∙ ap (λ n. ltb (how_many t n) (how_many t (first_vertex_in g.prims (suc i)))) (sym (start_at i lt)) ∙ ap (λ n. ltb (how_many t (get_or (0 ∷ ends_of 0 g.prims) i 0)) (how_many t n)) end

  -- FLAGS

  pub staying_vertices : (owners : List ℕ) (made : List Bool) → owners ≡ owners_from 0 g.prims → made ≡ flags_of (vertex_test m owners s.refers) (length s.refers) → made ≡ flags_of (stays g m Vertex) (length s.refers)
  staying_vertices owners made owners_are is = is ∙ flags_agree (vertex_test m owners s.refers) (stays g m Vertex) (length s.refers) (vertex_is owners owners_are)

  pub staying_points : (owners : List ℕ) (points : ℕ) (given used made : List Bool) → owners ≡ owners_from 0 g.prims → length m.points ≡ points → given ≡ flags_of (gives_up m owners) (length s.refers) → used ≡ flags_of (stays g m Vertex) (length s.refers)
      → made ≡ flags_of (point_test m.points (is_touched given s.refers) (is_touched used s.refers)) (length m.points) → made ≡ flags_of (stays g m Point) points
  staying_points owners points given used made owners_are many given_are used_are is =
      let V = length s.refers in
      is ∙ ap (λ fs. flags_of (point_test m.points (is_touched fs s.refers) (is_touched used s.refers)) (length m.points)) given_are
      ∙ ap (λ fs. flags_of (point_test m.points (is_touched (flags_of (gives_up m owners) V) s.refers) (is_touched fs s.refers)) (length m.points)) used_are
      ∙ flags_agree (point_test m.points (is_touched (flags_of (gives_up m owners) V) s.refers) (is_touched (flags_of (stays g m Vertex) V) s.refers)) (stays g m Point) (length m.points) (λ point lt. point_stays_is owners owners_are point)
      ∙ ap (flags_of (stays g m Point)) many

  pub staying_prims : (flags made : List Bool) → flags ≡ flags_of (stays g m Vertex) (length s.refers) → made ≡ grows (is_marked flags) 0 s.ends → made ≡ flags_of (stays g m Prim) (length s.closed)
  staying_prims flags made flags_are is =
      let t = is_marked flags in
      let u = stays g m Vertex in
      let V = length s.refers in
      let long : length made ≡ length s.closed = ap length is ∙ length-grows t 0 s.ends ∙ ends_counted g s has ∙ sym (prims_counted g s has) in
      let same : (n : ℕ) → n ≤ V → how_many t n ≡ how_many u n = λ n le. how_many_agree t u n (λ i lt. ap (λ fs. is_marked fs i) flags_are ∙ flag_is u V i (omega arith)) in
      fill_by_all (stays g m Prim) made (length s.closed) false long
      (λ i lt.
      let ends = ends_of 0 g.prims in
      let in_prims : i < length g.prims = omega (arith, prims_counted g s has) in
      let many = length-ends_of 0 g.prims in
      let start = start_at i in_prims in
      let end = get_or-ends_of 0 g.prims i 0 in_prims in
      let start_le = first_vertex_in-le g.prims i in
      let end_le = first_vertex_in-le g.prims (suc i) in
      let vertices = vertices_counted g s has in
      ap (λ fs. is_marked fs i) (is ∙ ap (grows t 0) (ends_is g s has)) ∙ grows_at t 0 ends i (omega arith)
      ∙ ap (λ n. ltb n (how_many t (get_or ends i 0))) (same (get_or (0 ∷ ends) i 0) (omega arith)) ∙ ap (ltb (how_many u (get_or (0 ∷ ends) i 0))) (same (get_or ends i 0) (omega arith))
      ∙ sym (prim_stays_by_ends i in_prims))

-- owners are primitives, one for each vertex
module _ (s : ShapeLists) (is : IsShape s) (owners : List ℕ) (owners_are : owners ≡ owners_from 0 is.geo.prims) where
  pub owners_many : length owners ≡ length s.refers
  owners_many = ap length owners_are ∙ length-owners 0 is.geo.prims ∙ sym (vertices_counted is.geo s is.has)

  pub owners_small : (n : ℕ) → n ≡ length s.closed → All (λ k. k < n) owners
  owners_small n n_is =
      let many = prims_counted is.geo s is.has in
      subst (All (λ k. k < n)) (sym owners_are) (All-weaker (λ k. k < 0 + length is.geo.prims) (λ k. k < n) (λ k lt. omega arith) (owners_from 0 is.geo.prims) (owners_below 0 is.geo.prims))
