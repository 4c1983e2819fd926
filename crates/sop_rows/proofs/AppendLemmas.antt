-- The merge of a list is its geometries appended one after the other from the left.
use Rattle.std.proofs.Common.{◌≡◌, ℕ, ◌+◌, List, [], ◌∷◌, ◌++◌, length, map, Option, Some, None, refl, ap, sym, ◌∙◌, arith, append_assoc, length-append, inl, inr}
use Rattle.std.specs.Prelude.{All, option_map, ◌⊎◌, fold}
use Rattle.std.specs.List.{flat_map}
use Rattle.std.proofs.lemmas.List.{length-map, map-append, append-nil}
use Rattle.std.proofs.lemmas.List.Concat.{flat_map-append}
use Rattle.std.proofs.lemmas.List.Elements.{All-nil, All-cons, All-head, All-tail, All-append, All-weaker}
use Rattle.sop_model.specs.declared.class.Class.{Class}
use Rattle.sop_model.specs.declared.class.Class.TheVariants.{Detail, Prim, Point, Vertex}
use Rattle.sop_model.specs.declared.geo.Geo.{Geo}
use Rattle.sop_model.specs.declared.geo.Row.{Row}
use Rattle.sop_model.specs.declared.geo.Head.{Head}
use Rattle.sop_model.specs.declared.geo.HeadSet.{HeadSet}
use Rattle.sop_model.specs.declared.geo.Corner.{Corner}
use Rattle.sop_model.specs.declared.geo.Primitive.{Primitive}
use Rattle.sop_model.specs.declared.value.Value.{Value}
use Rattle.sop_model.specs.Values.{kind_of}
use Rattle.sop_model.specs.Geometry.{position_head, empty_geo, IsRowOf, IsSound}
use Rattle.sop_model.specs.Merge.{first_heads, joined_set, value_under, fitted, row_under, moved_corner, moved_prim, joined_prims, detail_value, joined, merged}
use Rattle.sop_model.specs.Appending.{appended}
use Rattle.sop_model.proofs.PlainLemmas.{IsSound-empty_geo}
use Rattle.sop_model.proofs.RowLists.{map_agree}
use Rattle.sop_rows.proofs.FirstLemmas.{firsts-twice, under, under_none-append, under-skip}
use Rattle.sop_rows.proofs.MergeLemmas.{head_name, first_heads_is, value_under-map, value_under-none, value_under-some, fitted_again, Follows, HasNamesOf, row_under-twice, all_heads, under-joined, names_in_joined, joined_follows, joined_set-joined}

-- POINTS

points_twice : (new mid : HeadSet) → Follows new mid → (gs : List Geo) → All (λ g. HasNamesOf mid g.point) gs → map (row_under new mid) (flat_map (λ g. map (row_under mid g.point) g.points) gs) ≡ flat_map (λ g. map (row_under new g.point) g.points) gs
points_twice new mid follows [] has = refl
points_twice new mid follows (g ∷ gs) has =
    let rest = points_twice new mid follows gs (All-tail (λ g. HasNamesOf mid g.point) g gs has) in
    map-append (row_under new mid) (map (row_under mid g.point) g.points) (flat_map (λ g. map (row_under mid g.point) g.points) gs)
    ∙ ap (λ here. here ++ map (row_under new mid) (flat_map (λ g. map (row_under mid g.point) g.points) gs)) (each g.points)
    ∙ ap (λ more. map (row_under new g.point) g.points ++ more) rest
  where
    each : (rows : List Row) → map (row_under new mid) (map (row_under mid g.point) rows) ≡ map (row_under new g.point) rows
    each [] = refl
    each (r ∷ rows) =
        let here = row_under-twice new mid g.point (All-head (λ g. HasNamesOf mid g.point) g gs has) r follows in
        let rest = each rows in
        cc

pub points_in : List Geo → ℕ
points_in gs = length (flat_map (λ g. g.points) gs)

pub points_in-cons : (g : Geo) (gs : List Geo) → points_in (g ∷ gs) ≡ length g.points + points_in gs
unfolding points_in
points_in-cons g gs = length-append g.points (flat_map (λ g. g.points) gs)

length-points_under : (set : HeadSet) (gs : List Geo) → length (flat_map (λ g. map (row_under set g.point) g.points) gs) ≡ points_in gs
unfolding points_in
length-points_under set [] = refl
length-points_under set (g ∷ gs) =
    let rest = length-points_under set gs in
    let one = length-append g.points (flat_map (λ g. g.points) gs) in
    let two = length-append (map (row_under set g.point) g.points) (flat_map (λ g. map (row_under set g.point) g.points) gs) in
    let same = length-map g.points (row_under set g.point) in
    omega arith

-- a merge has the points of all inputs
pub length-points_joined : (gs : List Geo) → length (joined gs).points ≡ points_in gs
length-points_joined gs = length-points_under (joined_set Point gs) gs

-- PRIMITIVES

-- a primitive under other heads of primitives and vertices, behind so many points
abbrev pub moved_with : HeadSet → HeadSet → HeadSet → HeadSet → ℕ → Primitive → Primitive
moved_with prim old_prim vertex old_vertex before p = record {
  closed = p.closed;
  row = row_under prim old_prim p.row;
  corners = map (moved_corner vertex old_vertex before) p.corners;
}

abbrev pub prims_with : HeadSet → HeadSet → ℕ → List Geo → List Primitive
prims_with prim vertex before [] = []
prims_with prim vertex before (g ∷ gs) = map (moved_with prim g.prim vertex g.vertex before) g.prims ++ prims_with prim vertex (before + length g.points) gs

pub joined_prims_is : (all_gs : List Geo) (before : ℕ) (gs : List Geo) → joined_prims all_gs before gs ≡ prims_with (joined_set Prim all_gs) (joined_set Vertex all_gs) before gs
joined_prims_is all_gs before [] = refl
joined_prims_is all_gs before (g ∷ gs) = ap (λ rest. map (moved_prim all_gs g before) g.prims ++ rest) (joined_prims_is all_gs (before + length g.points) gs)

pub prims_with-append : (prim vertex : HeadSet) (before : ℕ) (gs more : List Geo) → prims_with prim vertex before (gs ++ more) ≡ prims_with prim vertex before gs ++ prims_with prim vertex (before + points_in gs) more
unfolding points_in
prims_with-append prim vertex before [] more = ap (λ n. prims_with prim vertex n more) (omega arith)
prims_with-append prim vertex before (g ∷ gs) more =
    let long = length-append g.points (flat_map (λ g. g.points) gs) in
    let place : before + length g.points + points_in gs ≡ before + length (g.points ++ flat_map (λ g. g.points) gs) = omega arith in
    let here = map (moved_with prim g.prim vertex g.vertex before) g.prims in
    ap (λ rest. here ++ rest) (prims_with-append prim vertex (before + length g.points) gs more)
    ∙ ap (λ n. here ++ (prims_with prim vertex (before + length g.points) gs ++ prims_with prim vertex n more)) place
    ∙ sym (append_assoc here (prims_with prim vertex (before + length g.points) gs) (prims_with prim vertex (before + points_in (g ∷ gs)) more))

module _ (prim mid_prim vertex mid_vertex : HeadSet) (follows : Follows prim mid_prim) (follows_vertex : Follows vertex mid_vertex) where
  corner_twice : (old : HeadSet) → HasNamesOf mid_vertex old → (before : ℕ) (corners : List Corner) → map (moved_corner vertex mid_vertex 0) (map (moved_corner mid_vertex old before) corners) ≡ map (moved_corner vertex old before) corners
  corner_twice old has before [] = refl
  corner_twice old has before (c ∷ corners) =
      let place : 0 + (before + c.point) ≡ before + c.point = omega arith in
      let row = row_under-twice vertex mid_vertex old has c.row follows_vertex in
      let rest = corner_twice old has before corners in
      λ j. record { point = place j; row = row j } ∷ rest j

  prim_twice : (g : Geo) → HasNamesOf mid_prim g.prim → HasNamesOf mid_vertex g.vertex → (before : ℕ) (prims : List Primitive) → map (moved_with prim mid_prim vertex mid_vertex 0) (map (moved_with mid_prim g.prim mid_vertex g.vertex before) prims) ≡ map (moved_with prim g.prim vertex g.vertex before) prims
  prim_twice g has has_vertex before [] = refl
  prim_twice g has has_vertex before (p ∷ prims) =
      let row = row_under-twice prim mid_prim g.prim has p.row follows in
      let corners = corner_twice g.vertex has_vertex before p.corners in
      let rest = prim_twice g has has_vertex before prims in
      λ j. record { closed = p.closed; row = row j; corners = corners j } ∷ rest j

  prims_twice : (before : ℕ) (gs : List Geo) → All (λ g. HasNamesOf mid_prim g.prim) gs → All (λ g. HasNamesOf mid_vertex g.vertex) gs → map (moved_with prim mid_prim vertex mid_vertex 0) (prims_with mid_prim mid_vertex before gs) ≡ prims_with prim vertex before gs
  prims_twice before [] has has_vertex = refl
  prims_twice before (g ∷ gs) has has_vertex =
      map-append (moved_with prim mid_prim vertex mid_vertex 0) (map (moved_with mid_prim g.prim mid_vertex g.vertex before) g.prims) (prims_with mid_prim mid_vertex (before + length g.points) gs)
      ∙ ap (λ here. here ++ map (moved_with prim mid_prim vertex mid_vertex 0) (prims_with mid_prim mid_vertex (before + length g.points) gs))
      (prim_twice g (All-head (λ g. HasNamesOf mid_prim g.prim) g gs has) (All-head (λ g. HasNamesOf mid_vertex g.vertex) g gs has_vertex) before g.prims)
      ∙ ap (λ rest. map (moved_with prim g.prim vertex g.vertex before) g.prims ++ rest)
      (prims_twice (before + length g.points) gs (All-tail (λ g. HasNamesOf mid_prim g.prim) g gs has) (All-tail (λ g. HasNamesOf mid_vertex g.vertex) g gs has_vertex))

-- THE DETAIL

abbrev pub first_some : Option Value → Option Value → Option Value
first_some None later = later
first_some (Some v) later = Some v

pub detail_value-cons : (g : Geo) (gs : List Geo) (h : Head) → detail_value (g ∷ gs) h ≡ first_some (value_under g.detail.heads g.detail_row.values h.name) (detail_value gs h)
detail_value-cons g gs h = refl

first_some-assoc : (a b c : Option Value) → first_some (first_some a b) c ≡ first_some a (first_some b c)
first_some-assoc None b c = refl
first_some-assoc (Some v) b c = refl

detail_value-append : (gs more : List Geo) (h : Head) → detail_value (gs ++ more) h ≡ first_some (detail_value gs h) (detail_value more h)
detail_value-append [] more h = refl
detail_value-append (g ∷ gs) more h =
    ap (first_some (value_under g.detail.heads g.detail_row.values h.name)) (detail_value-append gs more h)
    ∙ sym (first_some-assoc (value_under g.detail.heads g.detail_row.values h.name) (detail_value gs h) (detail_value more h))

-- a value for each head
abbrev pub HasDetail : Geo → Type 0
HasDetail g = length g.detail_row.values ≡ length g.detail.heads

pub HasDetail-from_sound : (g : Geo) → IsSound g → HasDetail g
HasDetail-from_sound g sound =
    let row = All-head (IsRowOf g.detail) g.detail_row [] (sound.rows Detail) in
    sym (length-map g.detail_row.values kind_of) ∙ ap length row.kinds ∙ length-map g.detail.heads (λ h. h.kind)

detail_none : (gs : List Geo) (h : Head) → under head_name (all_heads Detail gs) h.name ≡ None → detail_value gs h ≡ None
detail_none [] h none = refl
detail_none (g ∷ gs) h none =
    let both = under_none-append head_name g.detail.heads (all_heads Detail gs) h.name none in
    ap (λ o. first_some o (detail_value gs h)) (value_under-none g.detail.heads g.detail_row.values h.name both.0) ∙ detail_none gs h both.1

detail_some : (gs : List Geo) (h k : Head) → All HasDetail gs → under head_name (all_heads Detail gs) h.name ≡ Some k → (v : Value) × (detail_value gs h ≡ Some v)
detail_some [] h k long is = cc
detail_some (g ∷ gs) h k long is =
    by (under head_name g.detail.heads h.name) refl
    (λ none. detail_some gs h k (All-tail HasDetail g gs long) (sym (under-skip head_name g.detail.heads (all_heads Detail gs) h.name none) ∙ is))
    (λ l found. value_under-some g.detail.heads g.detail_row.values h.name l (All-head HasDetail g gs long) found)
  where
    by : (o : Option Head) → under head_name g.detail.heads h.name ≡ o → (under head_name g.detail.heads h.name ≡ None → (v : Value) × (detail_value gs h ≡ Some v)) → ((l : Head) → under head_name g.detail.heads h.name ≡ Some l → (v : Value) × (value_under g.detail.heads g.detail_row.values h.name ≡ Some v)) → (v : Value) × (detail_value (g ∷ gs) h ≡ Some v)
    by None none rest here =
        let found = rest none in
        (found.0, ap (λ o. first_some o (detail_value gs h)) (value_under-none g.detail.heads g.detail_row.values h.name none) ∙ found.1)
    by (Some l) is rest here =
        let found = here l is in
        (found.0, ap (λ o. first_some o (detail_value gs h)) found.1)

-- A MERGE WITH ONE MORE BEHIND

module _ (gs : List Geo) (g : Geo) (long : All HasDetail gs) where
  follows : (class : Class) → Follows (joined_set class (gs ++ g ∷ [])) (joined_set class gs)
  follows class = joined_follows class gs (g ∷ [])

  sets : (class : Class) → joined_set class (gs ++ g ∷ []) ≡ joined_set class (joined gs ∷ g ∷ [])
  sets class = sym (joined_set-joined class gs (g ∷ []))

  points_push : (joined (gs ++ g ∷ [])).points ≡ (joined (joined gs ∷ g ∷ [])).points
  points_push =
      let new = joined_set Point (gs ++ g ∷ []) in
      let last = map (row_under new g.point) g.points in
      flat_map-append (λ h. map (row_under new h.point) h.points) gs (g ∷ [])
      ∙ ap (λ xs. xs ++ (last ++ [])) (sym (points_twice new (joined_set Point gs) (follows Point) gs (names_in_joined Point gs)))
      ∙ ap (λ n. map (row_under n (joined_set Point gs)) (joined gs).points ++ (map (row_under n g.point) g.points ++ [])) (sets Point)

  prims_push : (joined (gs ++ g ∷ [])).prims ≡ (joined (joined gs ∷ g ∷ [])).prims
  prims_push =
      let prim = joined_set Prim (gs ++ g ∷ []) in
      let vertex = joined_set Vertex (gs ++ g ∷ []) in
      joined_prims_is (gs ++ g ∷ []) 0 (gs ++ g ∷ [])
      ∙ prims_with-append prim vertex 0 gs (g ∷ [])
      ∙ ap (λ ps. ps ++ prims_with prim vertex (0 + points_in gs) (g ∷ []))
      (sym (prims_twice prim (joined_set Prim gs) vertex (joined_set Vertex gs) (follows Prim) (follows Vertex) 0 gs (names_in_joined Prim gs) (names_in_joined Vertex gs)))
      ∙ ap (λ ps. map (moved_with prim (joined_set Prim gs) vertex (joined_set Vertex gs) 0) ps ++ prims_with prim vertex (0 + points_in gs) (g ∷ [])) (sym (joined_prims_is gs 0 gs))
      ∙ ap (λ n. map (moved_with prim (joined_set Prim gs) vertex (joined_set Vertex gs) 0) (joined gs).prims ++ prims_with prim vertex (0 + n) (g ∷ [])) (sym (length-points_joined gs))
      ∙ (λ j. prims_with (sets Prim j) (sets Vertex j) 0 (joined gs ∷ g ∷ []))
      ∙ sym (joined_prims_is (joined gs ∷ g ∷ []) 0 (joined gs ∷ g ∷ []))

  detail_push : (h : Head) → (under head_name (joined_set Detail gs).heads h.name ≡ Some h) ⊎ (under head_name (joined_set Detail gs).heads h.name ≡ None) → fitted h (detail_value (gs ++ g ∷ []) h) ≡ fitted h (detail_value (joined gs ∷ g ∷ []) h)
  detail_push h which =
      let inner = λ (k : Head). fitted k (detail_value gs k) in
      let seen = value_under-map inner (joined_set Detail gs).heads h.name in
      let last = detail_value (g ∷ []) h in
      elim which [
        | inl there ↦
            let some = detail_some gs h h long (sym (under-joined Detail gs h.name) ∙ there) in
            ap (fitted h) (detail_value-append gs (g ∷ []) h ∙ ap (λ o. first_some o last) some.1)
            ∙ sym (fitted_again h (Some some.0))
            ∙ ap (λ o. fitted h (Some (fitted h o))) (sym some.1)
            ∙ ap (λ o. fitted h (first_some o last)) (sym (seen ∙ ap (option_map inner) there))
        | inr none ↦
            ap (fitted h) (detail_value-append gs (g ∷ []) h ∙ ap (λ o. first_some o last) (detail_none gs h (sym (under-joined Detail gs h.name) ∙ none)))
            ∙ ap (λ o. fitted h (first_some o last)) (sym (seen ∙ ap (option_map inner) none))
      ]

  detail_row_push : (joined (gs ++ g ∷ [])).detail_row ≡ (joined (joined gs ∷ g ∷ [])).detail_row
  detail_row_push =
      let P : Head → Type 0 = λ h. (under head_name (joined_set Detail gs).heads h.name ≡ Some h) ⊎ (under head_name (joined_set Detail gs).heads h.name ≡ None) in
      let Q : Head → Type 0 = λ h. fitted h (detail_value (gs ++ g ∷ []) h) ≡ fitted h (detail_value (joined gs ∷ g ∷ []) h) in
      let hs = (joined_set Detail (gs ++ g ∷ [])).heads in
      let vs = map_agree (λ h. fitted h (detail_value (gs ++ g ∷ []) h)) (λ h. fitted h (detail_value (joined gs ∷ g ∷ []) h)) hs (All-weaker P Q detail_push hs (follows Detail).heads)
      ∙ ap (λ (set : HeadSet). map (λ h. fitted h (detail_value (joined gs ∷ g ∷ []) h)) set.heads) (sets Detail) in
      λ j. record { values = vs j; flags = [] }

  pub joined-push : joined (gs ++ g ∷ []) ≡ joined (joined gs ∷ g ∷ [])
  joined-push =
      let d = sets Detail in
      let p = sets Prim in
      let o = sets Point in
      let v = sets Vertex in
      λ j. record { detail = d j; prim = p j; point = o j; vertex = v j; points = points_push j; prims = prims_push j; detail_row = detail_row_push j }

-- THE EMPTY GEOMETRY BEFORE THE OTHERS

first_position : (hs : List Head) → first_heads (position_head ∷ (position_head ∷ hs)) ≡ first_heads (position_head ∷ hs)
first_position hs = first_heads_is (position_head ∷ position_head ∷ hs) ∙ firsts-twice head_name position_head hs ∙ sym (first_heads_is (position_head ∷ hs))

-- before a geometry that has `P` first it changes nothing
module _ (a : Geo) (more : List Geo) (hs : List Head) (is : a.point.heads ≡ position_head ∷ hs) where
  point_set : joined_set Point (empty_geo ∷ a ∷ more) ≡ joined_set Point (a ∷ more)
  point_set =
      let rest = all_heads Point more in
      let same = ap (λ ps. first_heads (position_head ∷ (ps ++ rest))) is ∙ first_position (hs ++ rest) ∙ ap (λ ps. first_heads (ps ++ rest)) (sym is) in
      λ j. record { heads = same j; groups = (joined_set Point (a ∷ more)).groups }

  pub joined_empty : joined (empty_geo ∷ a ∷ more) ≡ joined (a ∷ more)
  joined_empty =
      let o = point_set in
      let prims = joined_prims_is (empty_geo ∷ a ∷ more) 0 (empty_geo ∷ a ∷ more) ∙ sym (joined_prims_is (a ∷ more) 0 (a ∷ more)) in
      λ j. record {
        detail = joined_set Detail (a ∷ more);
        prim = joined_set Prim (a ∷ more);
        point = o j;
        vertex = joined_set Vertex (a ∷ more);
        points = map (row_under (o j) a.point) a.points ++ flat_map (λ g. map (row_under (o j) g.point) g.points) more;
        prims = prims j;
        detail_row = (joined (a ∷ more)).detail_row;
      }

-- THE LAW

-- a merge with one more geometry behind is the merge with that geometry appended
pub merged-append : (gs : List Geo) (g : Geo) → All IsSound gs → merged (gs ++ g ∷ []) ≡ appended (merged gs) g
merged-append gs g sound =
    let long = All-cons HasDetail empty_geo gs (HasDetail-from_sound empty_geo IsSound-empty_geo) (All-weaker IsSound HasDetail HasDetail-from_sound gs sound) in
    joined-push (empty_geo ∷ gs) g long ∙ sym (joined_empty (merged gs) (g ∷ []) (rest_of (merged gs).point.heads) refl)
  where
    rest_of : List Head → List Head
    rest_of [] = []
    rest_of (h ∷ hs) = hs

appended_in_turn : (before gs : List Geo) → All IsSound before → All IsSound gs → merged (before ++ gs) ≡ fold appended (merged before) gs
appended_in_turn before [] sound rest = ap merged (append-nil before)
appended_in_turn before (g ∷ gs) sound rest =
    let more = All-append IsSound before (g ∷ []) sound (All-cons IsSound g [] (All-head IsSound g gs rest) (All-nil IsSound)) in
    ap merged (sym (append_assoc before (g ∷ []) gs)) ∙ appended_in_turn (before ++ g ∷ []) gs more (All-tail IsSound g gs rest)
    ∙ ap (λ m. fold appended m gs) (merged-append before g sound)

-- the merge of a list is its geometries appended one after the other from the left
pub merged_in_turn : (gs : List Geo) → All IsSound gs → merged gs ≡ fold appended empty_geo gs
merged_in_turn gs sound = appended_in_turn [] gs (All-nil IsSound) sound
