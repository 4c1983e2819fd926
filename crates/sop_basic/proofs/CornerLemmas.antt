-- Each primitive has a vertex, where rows change, and where primitives come.
use Rattle.std.proofs.Common.{◌≡◌, ℕ, suc, ◌<◌, Bool, true, false, List, [], ◌∷◌, length, drop, map, refl, sym, ap, ◌∙◌, subst}
use Rattle.std.specs.Prelude.{All, Option, Some, None, Result, Ok, Err, if◌then◌else◌}
use Rattle.std.proofs.lemmas.List.{length-map}
use Rattle.std.proofs.lemmas.List.Elements.{All-nil, All-cons, All-head, All-tail, All-append}
use Rattle.sop_fixed.specs.declared.fault.NumFault.{NumFault}
use Rattle.sop_fixed.specs.declared.vec3.Vec3.{Vec3}
use Rattle.sop_model.specs.declared.class.Class.{Class}
use Rattle.sop_model.specs.declared.class.Class.TheVariants.{Detail, Prim, Point, Vertex}
use Rattle.sop_model.specs.declared.geo.Geo.{Geo}
use Rattle.sop_model.specs.declared.geo.Row.{Row}
use Rattle.sop_model.specs.declared.geo.Head.{Head}
use Rattle.sop_model.specs.declared.geo.HeadSet.{HeadSet}
use Rattle.sop_model.specs.declared.geo.Corner.{Corner}
use Rattle.sop_model.specs.declared.geo.Primitive.{Primitive}
use Rattle.sop_model.specs.declared.value.Value.{Value}
use Rattle.sop_model.specs.declared.fault.Fault.{Fault}
use Rattle.sop_model.specs.Vertices.{size_of}
use Rattle.sop_model.specs.Geometry.{fits}
use Rattle.sop_model.specs.Rows.{new_corner, new_prim, prims_rows, corners_rows, vertices_rows, with_rows, with_heads, with_class, attr_added, attr_deleted, kind_at, head_named, prim_added}
use Rattle.sop_basic.specs.Outcomes.{Outcome, then_with, within_limits, limited, in_range_from}
use Rattle.sop_basic.specs.Shapes.{shape, prim_through, corner_on}
use Rattle.sop_basic.specs.Heads.{is_kind, with_head_at, with_head, with_column_at, with_column}

abbrev pub HasVertex : Primitive → Type 0
HasVertex p = 0 < size_of p

abbrev pub HaveVertices : Geo → Type 0
HaveVertices g = All HasVertex g.prims

-- ---- rows
prims_kept : (prims : List Primitive) (rows : List Row) → All HasVertex prims → All HasVertex (prims_rows prims rows)
prims_kept [] rows have = All-nil HasVertex
prims_kept (p ∷ prims) [] have = have
prims_kept (p ∷ prims) (r ∷ rows) have = All-cons HasVertex (record p { row = r }) (prims_rows prims rows) (All-head HasVertex p prims have) (prims_kept prims rows (All-tail HasVertex p prims have))

corners_long : (corners : List Corner) (rows : List Row) → length (corners_rows corners rows) ≡ length corners
corners_long [] rows = refl
corners_long (c ∷ corners) [] = refl
corners_long (c ∷ corners) (r ∷ rows) = ap suc (corners_long corners rows)

vertices_kept : (prims : List Primitive) (rows : List Row) → All HasVertex prims → All HasVertex (vertices_rows prims rows)
vertices_kept [] rows have = All-nil HasVertex
vertices_kept (p ∷ prims) rows have =
    All-cons HasVertex (record p { corners = corners_rows p.corners rows }) (vertices_rows prims (drop (size_of p) rows)) (subst (λ (n : ℕ). 0 < n) (sym (corners_long p.corners rows)) (All-head HasVertex p prims have))
    (vertices_kept prims (drop (size_of p) rows) (All-tail HasVertex p prims have))

pub rows_kept : (g : Geo) (class : Class) (rows : List Row) → HaveVertices g → HaveVertices (with_rows g class rows)
rows_kept g Detail rows have = have
rows_kept g Prim rows have = prims_kept g.prims rows have
rows_kept g Point rows have = have
rows_kept g Vertex rows have = vertices_kept g.prims rows have

heads_kept : (g : Geo) (class : Class) (set : HeadSet) → HaveVertices g → HaveVertices (with_heads g class set)
heads_kept g Detail set have = have
heads_kept g Prim set have = have
heads_kept g Point set have = have
heads_kept g Vertex set have = have

pub class_kept : (g : Geo) (class : Class) (set : HeadSet) (rows : List Row) → HaveVertices g → HaveVertices (with_class g class set rows)
class_kept g class set rows have = heads_kept (with_rows g class rows) class set (rows_kept g class rows have)

either_has : (b : Bool) (g h : Geo) → HaveVertices g → HaveVertices h → HaveVertices (if b then g else h)
either_has true g h a b = a
either_has false g h a b = b

added_kept : (g : Geo) (class : Class) (head : Head) → HaveVertices g → HaveVertices (attr_added g class head)
added_kept g class head have = class_kept g class _ _ have

deleted_kept : (g : Geo) (class : Class) (i : ℕ) → HaveVertices g → HaveVertices (attr_deleted g class i)
deleted_kept g class i have = class_kept g class _ _ have

head_kept_at : (g : Geo) (class : Class) (head : Head) (o : Option ℕ) → HaveVertices g → HaveVertices (with_head_at g class head o)
head_kept_at g class head None have = added_kept g class head have
head_kept_at g class head (Some i) have =
    either_has (is_kind head.kind (kind_at g class i)) g (attr_added (attr_deleted g class i) class head) have (added_kept (attr_deleted g class i) class head (deleted_kept g class i have))

pub head_kept : (g : Geo) (class : Class) (head : Head) → HaveVertices g → HaveVertices (with_head g class head)
head_kept g class head have = head_kept_at g class head (head_named g class head.name) have

column_kept_at : (g : Geo) (class : Class) (change : List Value → List Value) (o : Option ℕ) → HaveVertices g → HaveVertices (with_column_at g class change o)
column_kept_at g class change None have = have
column_kept_at g class change (Some i) have = rows_kept g class _ have

pub column_kept : (g : Geo) (class : Class) (name : List ℕ) (change : List Value → List Value) → HaveVertices g → HaveVertices (with_column g class name change)
column_kept g class name change have = column_kept_at g class change (head_named g class name) have

-- ---- primitives
through_has : (closed : Bool) (points : List ℕ) → 0 < length points → HasVertex (prim_through closed points)
through_has closed points some = subst (λ (n : ℕ). 0 < n) (sym (length-map points corner_on)) some

pub one_through : (places : List Vec3) (closed : Bool) (points : List ℕ) → 0 < length points → HaveVertices (shape places (prim_through closed points ∷ []))
one_through places closed points some = All-cons HasVertex (prim_through closed points) [] (through_has closed points some) (All-nil HasVertex)

pub each_has : (prim : ℕ → Primitive) → ((i : ℕ) → HasVertex (prim i)) → (xs : List ℕ) → All HasVertex (map prim xs)
each_has prim has [] = All-nil HasVertex
each_has prim has (x ∷ xs) = All-cons HasVertex (prim x) (map prim xs) (has x) (each_has prim has xs)

pub prim_behind : (g : Geo) (closed : Bool) (points : List ℕ) → 0 < length points → HaveVertices g → HaveVertices (prim_added g closed points)
prim_behind g closed points some have =
    All-append HasVertex g.prims (new_prim g closed points ∷ []) have
    (All-cons HasVertex (new_prim g closed points) [] (subst (λ (n : ℕ). 0 < n) (sym (length-map points (new_corner g))) some) (All-nil HasVertex))

-- ---- outcomes
-- each primitive has a vertex in the geometry, if it is one
abbrev pub Has : Outcome → Type 0
Has outcome = (g : Geo) → outcome ≡ Ok g → HaveVertices g

pub has_ok : (g : Geo) → HaveVertices g → Has (Ok g)
has_ok g have h is = let same : g ≡ h = cc in subst (λ (x : Geo). HaveVertices x) same have

pub has_err : (f : Fault) → Has (Err f)
has_err f g is = absurd (cc)

pub has_then : {A : Type 0} (r : Result A Fault) (go : A → Outcome) → ((a : A) → r ≡ Ok a → Has (go a)) → Has (then_with r go)
has_then (Ok a) go has = has a refl
has_then (Err f) go has = has_err f

pub has_if : (b : Bool) (x y : Outcome) → Has x → Has y → Has (if b then x else y)
has_if true x y a b = a
has_if false x y a b = b

pub has_limited : (outcome : Outcome) → Has outcome → Has (limited outcome)
has_limited outcome has = has_then outcome within_limits (λ g is. has_if (fits g) (Ok g) _ (has_ok g (has g is)) (has_err _))

-- as many results as there are
pub in_range_long : {A : Type 0} (i : ℕ) (results : List (Result A NumFault)) (xs : List A) → in_range_from i results ≡ Ok xs → length xs ≡ length results
in_range_long i [] xs is = let none : [] ≡ xs = cc in ap length (sym none)
in_range_long i (Err e ∷ results) xs is = absurd (cc)
in_range_long {A} i (Ok x ∷ results) xs is = from (in_range_from (suc i) results) (in_range_long (suc i) results) is
  where
    from : (r : Result (List A) Fault) → ((ys : List A) → r ≡ Ok ys → length ys ≡ length results) → then_with r (λ ys. Ok (x ∷ ys)) ≡ Ok xs → length xs ≡ suc (length results)
    from (Ok ys) long is = let same : x ∷ ys ≡ xs = cc in ap length (sym same) ∙ ap suc (long ys refl)
    from (Err f) long is = absurd (cc)
