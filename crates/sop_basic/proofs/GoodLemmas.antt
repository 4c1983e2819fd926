-- What nodes give is well made where their inputs are: type by type each primitive has a vertex.
use Rattle.std.proofs.Common.{◌≡◌, ℕ, suc, ◌-◌, ◌*◌, ◌/◌, ◌%◌, ◌≤◌, Bool, true, false, List, [], ◌∷◌, length, map, refl, sym, subst, arith}
use Rattle.std.specs.Prelude.{All, Option, Some, None, Result, Ok, Err, IfSome, IfOk, IsSomeAnd, if◌then◌else◌, unwrap_or, codes, bytes_eq}
use Rattle.std.specs.Option.{option_and_then}
use Rattle.std.specs.List.{range_with_len}
use Rattle.std.proofs.lemmas.List.{length-map}
use Rattle.std.proofs.lemmas.List.FromFn.{length-range_with_len}
use Rattle.std.proofs.lemmas.List.Elements.{All-nil, All-cons, All-head, All-tail, All-from_recursion}
use Rattle.sop_fixed.specs.declared.vec3.Vec3.{Vec3}
use Rattle.sop_model.specs.declared.class.Class.{Class}
use Rattle.sop_model.specs.declared.class.Class.TheVariants.{Point}
use Rattle.sop_model.specs.declared.geo.Geo.{Geo}
use Rattle.sop_model.specs.declared.geo.Head.{Head}
use Rattle.sop_model.specs.declared.value.Kind.{Kind}
use Rattle.sop_model.specs.declared.value.Kind.TheVariants as kind
use Rattle.sop_model.specs.declared.value.Value.TheVariants as value
use Rattle.sop_model.specs.Values.{kind_of}
use Rattle.sop_model.specs.Places.{places_of}
use Rattle.sop_model.specs.Rows.{rows_held}
use Rattle.sop_outside.specs.Blanks.{words_of}
use Rattle.sop_model.specs.declared.fault.Fault.TheVariants.{NoInput, NotYet, BadParm}
use Rattle.sop_model.specs.declared.fault.Fault.TheVariants as fault
use Rattle.sop_model.specs.declared.fault.CookStop.{CookStop}
use Rattle.sop_model.specs.declared.value.Value.{Value}
use Rattle.sop_model.specs.Geometry.{empty_geo, heads_of, rows_of, fits, IsGood, Fits}
use Rattle.sop_model.proofs.LimitsLemmas.{Fits-from_fits}
use Rattle.geo_text.specs.ObjMeaning.{meaning, Number, Index}
use Rattle.geo_text.specs.ObjMeaning as obj
use Rattle.geo_text.proofs.ObjAnswer.{meaning_good}
use Rattle.sop_net.specs.declared.node_type.NodeType.{NodeType}
use Rattle.sop_net.specs.declared.node_type.NodeType.TheVariants as type
use Rattle.sop_net.specs.NodeTable.{parms_of}
use Rattle.sop_net.specs.Network.{AreValues, parm_at}
use Rattle.sop_vault.specs.Keyed.{at}
use Rattle.sop_vault.specs.Vaults.{VaultMap, IsVault}
use Rattle.sop_vault.proofs.PassLemmas.{readable_at}
use Rattle.sop_basic.specs.declared.loaded.LoadedFile.{LoadedFile}
use Rattle.sop_basic.specs.declared.loaded.LoadedFile.TheVariants.{Bytes, Missing, TooLong}
use Rattle.sop_basic.specs.Loads.{FileMap}
use Rattle.sop_basic.specs.ParmTexts.{count_in, number_in, vector_in, vectors_in, class_in}
use Rattle.sop_basic.specs.Outcomes.{Outcome, then_with, limited, all_in_range}
use Rattle.sop_basic.specs.Selecting.{by_pattern}
use Rattle.sop_basic.specs.Shapes.{shape}
use Rattle.sop_basic.specs.File.{of_text, file_geo}
use Rattle.sop_basic.specs.Add.{with_points, with_prim, added, add_geo}
use Rattle.sop_basic.specs.Line.{way_to, place_along, line_through, line_geo}
use Rattle.sop_basic.specs.Grid.{quad_at, grid_of, grid_geo}
use Rattle.sop_basic.specs.Box.{corner_place, sides, box_geo}
use Rattle.sop_basic.specs.Xform.{moved_where, placed, xform_geo}
use Rattle.sop_basic.specs.Heads.{with_head, with_column}
use Rattle.sop_basic.specs.AttribCreate.{value_told, set_where, set_under, created, attrib_create_geo}
use Rattle.sop_basic.specs.AttribDelete.{staying, heads_left, values_left, attrs_left, attrib_delete_geo}
use Rattle.sop_basic.specs.Enumerate.{may_count, counted_from, counted_under, enumerate_geo}
use Rattle.sop_basic.specs.Basic.{input_at, needing, maker_of, made_by, basic_geo}
use Rattle.sop_basic.specs.Making.{Gives}
use Rattle.sop_basic.specs.Cook.{inputs_seen, AreGoodAt}
use Rattle.sop_basic.proofs.NumberLemmas.{any_cells}
use Rattle.sop_basic.proofs.ParmLemmas.{value_at, count_between}
use Rattle.sop_basic.proofs.CornerLemmas.{HasVertex, HaveVertices, rows_kept, class_kept, head_kept, column_kept, one_through, each_has, prim_behind, Has, has_ok, has_err, has_then, has_if, has_limited, in_range_long}

-- ---- nodes without an input
file_has : (file : LoadedFile) → Has (file_geo file)
file_has (Bytes bytes) = from (meaning bytes) refl
  where
    from : (r : Result Geo obj.Refusal) → meaning bytes ≡ r → Has (of_text r)
    from (Ok g) is = has_ok g (meaning_good bytes g is).0.corners
    from (Err (Number line)) is = has_err (fault.Number line)
    from (Err (Index line)) is = has_err (fault.Index line)
    from (Err obj.Limit) is = has_err fault.Limit
file_has Missing = has_err fault.NoFile
file_has TooLong = has_err fault.Limit

line_has : (parms : List (List ℕ)) → AreValues (parms_of type.Line) parms → Has (line_geo parms)
line_has parms are =
    let points = count_in (parm_at parms 3) in
    let some : 1 ≤ points = (count_between 1 1000000 (parm_at parms 3) (value_at (parms_of type.Line) parms are 3 _ refl)).0 in
    let targets = map (λ i. place_along (vector_in (parm_at parms 0)) (vector_in (parm_at parms 1)) (way_to (number_in (parm_at parms 2)) points i)) (range_with_len 0 points) in
    has_then (all_in_range targets) (λ places. Ok (line_through places)) (λ places is.
    let many = in_range_long 0 targets places is in
    let long = length-map (range_with_len 0 points) (λ i. place_along (vector_in (parm_at parms 0)) (vector_in (parm_at parms 1)) (way_to (number_in (parm_at parms 2)) points i)) in
    let all = length-range_with_len 0 points in
    let through = length-range_with_len 0 (length places) in
    has_ok (line_through places) (one_through places false (range_with_len 0 (length places)) (omega (arith, some, many, long, all, through))))

quad_has : (cols r c : ℕ) → HasVertex (quad_at cols r c)
quad_has cols r c = omega arith

grid_has : (parms : List (List ℕ)) → Has (grid_geo parms)
grid_has parms =
    let rows = count_in (parm_at parms 0) in
    let cols = count_in (parm_at parms 1) in
    let cells = any_cells (quad_at cols) (rows - 1) (cols - 1) in
    has_ok (grid_of rows cols (number_in (parm_at parms 2)) (number_in (parm_at parms 3)))
    (subst (λ ps. All HasVertex ps) (sym cells) (each_has (λ i. quad_at cols (i / (cols - 1)) (i % (cols - 1))) (λ i. quad_has cols (i / (cols - 1)) (i % (cols - 1))) (range_with_len 0 ((rows - 1) * (cols - 1)))))

sides_have : All HasVertex sides
sides_have = All-from_recursion HasVertex sides (omega arith, (omega arith, (omega arith, (omega arith, (omega arith, (omega arith, tt))))))

box_has : (parms : List (List ℕ)) → Has (box_geo parms)
box_has parms = has_then (all_in_range (map (corner_place (vector_in (parm_at parms 0)) (vector_in (parm_at parms 1))) (range_with_len 0 8))) (λ places. Ok (shape places sides)) (λ places is. has_ok (shape places sides) sides_have)

-- ---- nodes with an input
prim_has : (closed : Bool) (g : Geo) (first : ℕ) (places : List Vec3) → HaveVertices g → HaveVertices (with_prim closed g first places)
prim_has closed g first [] have = have
prim_has closed g first (place ∷ places) have = prim_behind g closed (range_with_len first (length (place ∷ places))) (let long = length-range_with_len first (suc (length places)) in omega (arith, long)) have

poly_has : (open_prim closed_prim : Bool) (g : Geo) (first : ℕ) (places : List Vec3) → HaveVertices g
    → HaveVertices (if open_prim then with_prim false g first places else if closed_prim then with_prim true g first places else g)
poly_has true closed_prim g first places have = prim_has false g first places have
poly_has false true g first places have = prim_has true g first places have
poly_has false false g first places have = have

add_has : (parms : List (List ℕ)) (input : Option Geo) → HaveVertices (unwrap_or input empty_geo) → Has (add_geo parms input)
add_has parms input have =
    let g = unwrap_or input empty_geo in
    let places = vectors_in (parm_at parms 0) in
    let poly = parm_at parms 1 in
    has_ok (added g places poly) (poly_has (bytes_eq poly (codes "open")) (bytes_eq poly (codes "closed")) (with_points g places) (length g.points) places have)

xform_has : (parms : List (List ℕ)) (g : Geo) → HaveVertices g → Has (xform_geo parms g)
xform_has parms g have =
    let go = λ (flags : List Bool). then_with (all_in_range (moved_where (vector_in (parm_at parms 0)) (vector_in (parm_at parms 1)) flags (places_of g))) (λ places. Ok (placed g places)) in
    has_then (by_pattern g Point (parm_at parms 2)) go (λ flags is.
    has_then (all_in_range (moved_where (vector_in (parm_at parms 0)) (vector_in (parm_at parms 1)) flags (places_of g))) (λ places. Ok (placed g places)) (λ places done.
    has_ok (placed g places) (rows_kept g Point (rows_held 0 (rows_of g Point) (map value.Vector places)) have)))

under_has : (class : Class) (name : List ℕ) (kind : Kind) (change : List Value → List Value) (g : Geo) → HaveVertices g → HaveVertices (with_column (with_head g class (record { name = name; kind = kind })) class name change)
under_has class name kind change g have =
    let head : Head = record { name = name; kind = kind } in
    column_kept (with_head g class head) class name change (head_kept g class head have)

created_has : (class : Class) (name group : List ℕ) (g : Geo) (o : Option Value) → HaveVertices g → Has (created class name group g o)
created_has class name group g None have = has_err BadParm
created_has class name group g (Some v) have =
    has_then (by_pattern g class group) (λ flags. Ok (set_under class name v g flags)) (λ flags is. has_ok (set_under class name v g flags) (under_has class name (kind_of v) (set_where v flags) g have))

create_has : (parms : List (List ℕ)) (g : Geo) → HaveVertices g → Has (attrib_create_geo parms g)
create_has parms g have = created_has (class_in (parm_at parms 0)) (parm_at parms 1) (parm_at parms 4) g (value_told parms) have

delete_has : (parms : List (List ℕ)) (g : Geo) → HaveVertices g → Has (attrib_delete_geo parms g)
delete_has parms g have =
    let class = class_in (parm_at parms 0) in
    let stay = staying g class (words_of (parm_at parms 1)) in
    has_ok (attrs_left g class stay) (class_kept g class (heads_left stay (heads_of g class)) (map (values_left stay) (rows_of g class)) have)

enumerate_has : (parms : List (List ℕ)) (g : Geo) → HaveVertices g → Has (enumerate_geo parms g)
enumerate_has parms g have =
    let class = class_in (parm_at parms 0) in
    let name = parm_at parms 1 in
    let go = λ (flags : List Bool). Ok (counted_under class name g flags) in
    has_if (may_count class name) (then_with (by_pattern g class (parm_at parms 2)) go) (Err BadParm)
    (has_then (by_pattern g class (parm_at parms 2)) go (λ flags is. has_ok (counted_under class name g flags) (under_has class name kind.Int (counted_from 0 flags) g have)))
    (has_err BadParm)

-- ---- every type
abbrev pub AreHaving : List (Option Geo) → Type 0
AreHaving inputs = All (λ input. IfSome input HaveVertices) inputs

input_has : (inputs : List (Option Geo)) (g : Geo) → AreHaving inputs → input_at inputs 0 ≡ Some g → HaveVertices g
input_has [] g have is = absurd (cc)
input_has (input ∷ inputs) g have is =
    let same : input ≡ Some g = one input is in
    subst (λ o. IfSome o HaveVertices) same (All-head (λ input. IfSome input HaveVertices) input inputs have)
  where
    one : (o : Option Geo) → option_and_then (λ g. g) (Some o) ≡ Some g → o ≡ Some g
    one o is = is

needing_has : (number : ℕ) (o : Option Geo) (go : Geo → Outcome) → ((g : Geo) → o ≡ Some g → Has (go g)) → Has (needing number o go)
needing_has number None go has = has_err (NoInput number)
needing_has number (Some g) go has = has g refl

default_has : (o : Option Geo) → ((g : Geo) → o ≡ Some g → HaveVertices g) → HaveVertices (unwrap_or o empty_geo)
default_has None has = All-nil HasVertex
default_has (Some g) has = has g refl

module _ (files : FileMap) (parms : List (List ℕ)) (inputs : List (Option Geo)) (have : AreHaving inputs) where
  first_has : (number : ℕ) (go : Geo → Outcome) → ((g : Geo) → HaveVertices g → Has (go g)) → Has (needing number (input_at inputs 0) go)
  first_has number go has = needing_has number (input_at inputs 0) go (λ g is. has g (input_has inputs g have is))

  made_has : (t : NodeType) → AreValues (parms_of t) parms → Has (made_by (maker_of t) files parms inputs)
  made_has type.File are = file_has (files (parm_at parms 0))
  made_has type.Add are = add_has parms (input_at inputs 0) (default_has (input_at inputs 0) (λ g is. input_has inputs g have is))
  made_has type.Line are = line_has parms are
  made_has type.Grid are = grid_has parms
  made_has type.Box are = box_has parms
  made_has type.Null are = first_has 0 Ok has_ok
  made_has type.Switch are = first_has (count_in (parm_at parms 0)) Ok has_ok
  made_has type.Xform are = first_has 0 (xform_geo parms) (xform_has parms)
  made_has type.AttribCreate are = first_has 0 (attrib_create_geo parms) (create_has parms)
  made_has type.AttribDelete are = first_has 0 (attrib_delete_geo parms) (delete_has parms)
  made_has type.Enumerate are = first_has 0 (enumerate_geo parms) (enumerate_has parms)
  made_has type.Merge are = has_err NotYet
  made_has type.Blast are = has_err NotYet
  made_has type.GroupCreate are = has_err NotYet
  made_has type.CopyToPoints are = has_err NotYet
  made_has type.Sort are = has_err NotYet
  made_has type.Fuse are = has_err NotYet
  made_has type.Reverse are = has_err NotYet
  made_has type.AttribWrangle are = has_err NotYet
  made_has type.BlockBegin are = has_err NotYet
  made_has type.BlockEnd are = has_err NotYet
  made_has type.CompileBegin are = has_err NotYet
  made_has type.CompileEnd are = has_err NotYet

  pub basic_has : (t : NodeType) → AreValues (parms_of t) parms → Has (basic_geo files t parms inputs)
  basic_has t are = has_limited (made_by (maker_of t) files parms inputs) (made_has t are)

-- ---- over a vault
seen_have : (v : VaultMap) (keys : List (Option ℕ)) → AreGoodAt v keys → AreHaving (inputs_seen v keys)
seen_have v [] good = All-nil (λ input. IfSome input HaveVertices)
seen_have v (input ∷ keys) good =
    All-cons (λ input. IfSome input HaveVertices) (option_and_then (at v.geos) input) (inputs_seen v keys)
    (one input (All-head (λ input. IfSome input (λ key. IsSomeAnd (at v.geos key) IsGood)) input keys good))
    (seen_have v keys (All-tail (λ input. IfSome input (λ key. IsSomeAnd (at v.geos key) IsGood)) input keys good))
  where
    there : (o : Option Geo) → IsSomeAnd o IsGood → IfSome o HaveVertices
    there None good = tt
    there (Some g) good = good.corners

    one : (o : Option ℕ) → IfSome o (λ key. IsSomeAnd (at v.geos key) IsGood) → IfSome (option_and_then (at v.geos) o) HaveVertices
    one None good = tt
    one (Some key) good = there (at v.geos key) good

pub good_made : (old new : VaultMap) (files : FileMap) (t : NodeType) (parms : List (List ℕ)) (keys : List (Option ℕ)) (r : Result ℕ CookStop) → IsVault new → AreValues (parms_of t) parms
    → Gives old new (basic_geo files t parms (inputs_seen old keys)) r → AreGoodAt old keys → IfOk r (λ key. IsSomeAnd (at new.geos key) IsGood)
good_made old new files t parms keys (Ok key) is are (g, made, add) good =
    let sound = (readable_at new is key g add.geos.here).0.sound in
    subst (λ o. IsSomeAnd o IsGood) (sym add.geos.here) (record { sound = sound; corners = basic_has files parms (inputs_seen old keys) (seen_have old keys good) t are g made })
good_made old new files t parms keys (Err s) is are gives good = tt

-- ---- limits
limits_fit : (g h : Geo) (b : Bool) → fits g ≡ b → (if b then Ok g else Err fault.Limit) ≡ Ok h → Fits h
limits_fit g h true fit is = let same : g ≡ h = cc in subst Fits same (Fits-from_fits g fit)
limits_fit g h false fit is = absurd (cc)

-- what a node gives passes no limit
pub limited_fits : (outcome : Outcome) (g : Geo) → limited outcome ≡ Ok g → Fits g
limited_fits (Ok h) g is = limits_fit h g (fits h) refl is
limited_fits (Err f) g is = absurd (cc)
