-- The faults of basic nodes, type by type.
use Rattle.std.proofs.Common.{◌≡◌, ℕ, suc, Bool, true, false, List, [], ◌∷◌, map, refl, if◌then◌else◌}
use Rattle.std.specs.Prelude.{⊤, ℤ, Option, None, Some, Result, Ok, Err}
use Rattle.std.specs.List.{range_with_len}
use Rattle.sop_fixed.specs.declared.fault.NumFault.{NumFault}
use Rattle.sop_fixed.specs.declared.vec3.Vec3.{Vec3}
use Rattle.sop_model.specs.declared.class.Class.{Class}
use Rattle.sop_model.specs.declared.class.Class.TheVariants.{Point}
use Rattle.sop_model.specs.declared.geo.Geo.{Geo}
use Rattle.sop_model.specs.declared.fault.Fault.{Fault}
use Rattle.sop_model.specs.declared.fault.Fault.TheVariants as fault
use Rattle.sop_model.specs.declared.value.Value.{Value}
use Rattle.sop_model.specs.Geometry.{fits}
use Rattle.sop_model.specs.Places.{places_of}
use Rattle.sop_net.specs.declared.node_type.NodeType.{NodeType}
use Rattle.sop_net.specs.declared.node_type.NodeType.TheVariants as type
use Rattle.sop_net.specs.Network.{parm_at}
use Rattle.sop_pattern.specs.declared.word.Word.{Word}
use Rattle.sop_pattern.specs.Words.{pattern_of}
use Rattle.sop_pattern.specs.Selection.{selection}
use Rattle.sop_basic.specs.Loads.{FileMap}
use Rattle.sop_basic.specs.Outcomes.{Outcome, then_with, within_limits, in_range_from, all_in_range}
use Rattle.sop_basic.specs.Selecting.{or_no_group, of_words, by_pattern}
use Rattle.sop_basic.specs.Shapes.{shape}
use Rattle.sop_basic.specs.ParmTexts.{count_in, number_in, vector_in, class_in}
use Rattle.sop_basic.specs.File.{file_geo}
use Rattle.sop_basic.specs.Line.{way_to, place_along, line_places, line_through}
use Rattle.sop_basic.specs.Box.{corner_place, sides}
use Rattle.sop_basic.specs.Xform.{moved_where, placed, xform_geo}
use Rattle.sop_basic.specs.AttribCreate.{set_under, created, value_told, attrib_create_geo}
use Rattle.sop_basic.specs.AttribDelete.{attrib_delete_geo}
use Rattle.sop_basic.specs.Enumerate.{may_count, counted_under, enumerate_geo}
use Rattle.sop_basic.specs.Basic.{input_at, needing, maker_of, made_by, basic_geo}

-- a fault is as P says, where there is one
abbrev pub Fails : {A : Type 0} → (Fault → Type 0) → Result A Fault → Type 0
Fails P (Ok a) = ⊤
Fails P (Err f) = P f

-- P holds of the faults that nodes give but for those of files
pub record HoldsOfOwn (P : Fault → Type 0) : Type 0 where
  pub not_yet : P fault.NotYet
  pub no_input : (i : ℕ) → P (fault.NoInput i)
  pub bad_parm : P fault.BadParm
  pub bad_group : (i : ℕ) → P (fault.BadGroup i)
  pub no_group : (i : ℕ) → P (fault.NoGroup i)
  pub range : (i : ℕ) → P (fault.Range i)
  pub limit : P fault.Limit

module _ (P : Fault → Type 0) (own : HoldsOfOwn P) where
  pub fails_then : {A B : Type 0} (r : Result A Fault) (go : A → Result B Fault) → Fails P r → ((a : A) → Fails P (go a)) → Fails P (then_with r go)
  fails_then (Ok a) go here rest = rest a
  fails_then (Err f) go here rest = here

  pub fails_within : (g : Geo) → Fails P (within_limits g)
  fails_within g = by (fits g)
    where
      by : (b : Bool) → Fails P (if b then Ok g else Err fault.Limit)
      by true = tt
      by false = own.limit

  fails_range : {A : Type 0} (i : ℕ) (results : List (Result A NumFault)) → Fails P (in_range_from i results)
  fails_range i [] = tt
  fails_range i (Err e ∷ results) = own.range i
  fails_range i (Ok x ∷ results) = fails_then (in_range_from (suc i) results) (λ xs. Ok (x ∷ xs)) (fails_range (suc i) results) (λ xs. tt)

  fails_line : (origin dir : Vec3) (dist : ℤ) (points : ℕ) → Fails P (line_places origin dir dist points)
  fails_line origin dir dist points = fails_range 0 (map (λ i. place_along origin dir (way_to dist points i)) (range_with_len 0 points))

  pub fails_needing : (i : ℕ) (o : Option Geo) (go : Geo → Outcome) → ((g : Geo) → Fails P (go g)) → Fails P (needing i o go)
  fails_needing i None go each = own.no_input i
  fails_needing i (Some g) go each = each g

  fails_moved : (g : Geo) (results : List (Result Vec3 NumFault)) → Fails P (then_with (all_in_range results) (λ places. Ok (placed g places)))
  fails_moved g results = fails_then (all_in_range results) (λ places. Ok (placed g places)) (fails_range 0 results) (λ places. tt)

  pub fails_selecting : (g : Geo) (class : Class) (text : List ℕ) → Fails P (by_pattern g class text)
  fails_selecting g class text = by (pattern_of text)
    where
      with_words : (words : List Word) (r : Result (List Bool) ℕ) → Fails P (or_no_group r)
      with_words words (Ok flags) = tt
      with_words words (Err i) = own.no_group i

      by : (r : Result (List Word) ℕ) → Fails P (of_words g class r)
      by (Ok words) = with_words words (selection g class words)
      by (Err i) = own.bad_group i

  fails_xform : (parms : List (List ℕ)) (g : Geo) → Fails P (xform_geo parms g)
  fails_xform parms g =
      let t = vector_in (parm_at parms 0) in
      let s = vector_in (parm_at parms 1) in
      fails_then (by_pattern g Point (parm_at parms 2)) (λ flags. then_with (all_in_range (moved_where t s flags (places_of g))) (λ places. Ok (placed g places))) (fails_selecting g Point (parm_at parms 2))
      (λ flags. fails_moved g (moved_where t s flags (places_of g)))

  fails_create : (parms : List (List ℕ)) (g : Geo) → Fails P (attrib_create_geo parms g)
  fails_create parms g = by (value_told parms)
    where
      by : (told : Option Value) → Fails P (created (class_in (parm_at parms 0)) (parm_at parms 1) (parm_at parms 4) g told)
      by None = own.bad_parm
      by (Some v) =
          fails_then (by_pattern g (class_in (parm_at parms 0)) (parm_at parms 4)) (λ flags. Ok (set_under (class_in (parm_at parms 0)) (parm_at parms 1) v g flags))
          (fails_selecting g (class_in (parm_at parms 0)) (parm_at parms 4)) (λ flags. tt)

  fails_enumerate : (parms : List (List ℕ)) (g : Geo) → Fails P (enumerate_geo parms g)
  fails_enumerate parms g = by (may_count (class_in (parm_at parms 0)) (parm_at parms 1))
    where
      by : (b : Bool) → Fails P (if b then then_with (by_pattern g (class_in (parm_at parms 0)) (parm_at parms 2)) (λ flags. Ok (counted_under (class_in (parm_at parms 0)) (parm_at parms 1) g flags)) else Err fault.BadParm)
      by true =
          fails_then (by_pattern g (class_in (parm_at parms 0)) (parm_at parms 2)) (λ flags. Ok (counted_under (class_in (parm_at parms 0)) (parm_at parms 1) g flags))
          (fails_selecting g (class_in (parm_at parms 0)) (parm_at parms 2)) (λ flags. tt)
      by false = own.bad_parm

  made_fails : (files : FileMap) (t : NodeType) (parms : List (List ℕ)) (inputs : List (Option Geo)) → (t ≡ type.File → Fails P (file_geo (files (parm_at parms 0)))) → Fails P (made_by (maker_of t) files parms inputs)
  made_fails files type.File parms inputs file = file refl
  made_fails files type.Add parms inputs file = tt
  made_fails files type.Line parms inputs file =
      let origin = vector_in (parm_at parms 0) in let dir = vector_in (parm_at parms 1) in let dist = number_in (parm_at parms 2) in let points = count_in (parm_at parms 3) in
      fails_then (line_places origin dir dist points) (λ places. Ok (line_through places)) (fails_line origin dir dist points) (λ places. tt)
  made_fails files type.Grid parms inputs file = tt
  made_fails files type.Box parms inputs file =
      let places = map (corner_place (vector_in (parm_at parms 0)) (vector_in (parm_at parms 1))) (range_with_len 0 8) in fails_then (all_in_range places) (λ at. Ok (shape at sides)) (fails_range 0 places) (λ at. tt)
  made_fails files type.Null parms inputs file = fails_needing 0 (input_at inputs 0) Ok (λ g. tt)
  made_fails files type.Switch parms inputs file = fails_needing _ _ Ok (λ g. tt)
  made_fails files type.Xform parms inputs file = fails_needing 0 (input_at inputs 0) (xform_geo parms) (fails_xform parms)
  made_fails files type.AttribCreate parms inputs file = fails_needing 0 (input_at inputs 0) (attrib_create_geo parms) (fails_create parms)
  made_fails files type.AttribDelete parms inputs file = fails_needing 0 (input_at inputs 0) (attrib_delete_geo parms) (λ g. tt)
  made_fails files type.Enumerate parms inputs file = fails_needing 0 (input_at inputs 0) (enumerate_geo parms) (fails_enumerate parms)
  made_fails files other parms inputs file = own.not_yet

  pub basic_fails : (files : FileMap) (t : NodeType) (parms : List (List ℕ)) (inputs : List (Option Geo)) → (t ≡ type.File → Fails P (file_geo (files (parm_at parms 0)))) → Fails P (basic_geo files t parms inputs)
  basic_fails files t parms inputs file = fails_then (made_by (maker_of t) files parms inputs) within_limits (made_fails files t parms inputs file) fails_within
