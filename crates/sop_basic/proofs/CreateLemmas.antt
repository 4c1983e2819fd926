-- What an `attribcreate` node is told, by its parameters, and where the points' `P` stands.
use Rattle.std.proofs.Common.{◌≡◌, ℕ, suc, ◌+◌, ◌≤◌, ◌||◌, Bool, true, false, not, cond, lt-ltb, le-leb, List, [], ◌∷◌, length, map, refl, sym, ap, ◌∙◌, subst, arith}
use Rattle.std.specs.Prelude.{Option, Some, None, Ok, Err, position, option_map, slice_get, codes, if◌then◌else◌, nat_lt}
use Rattle.std.specs.List.{position_or_len}
use Rattle.std.specs.Str.{bytes_eq}
use Rattle.std.specs.Result.{result_ok}
use Rattle.std.proofs.lemmas.Bool.{and_parts}
use Rattle.sop_fixed.specs.Numerals.{value_of, whole_number_of}
use Rattle.sop_model.specs.declared.class.Class.{Class}
use Rattle.sop_model.specs.declared.class.Class.TheVariants.{Detail, Prim, Point, Vertex}
use Rattle.sop_model.specs.declared.geo.Geo.{Geo}
use Rattle.sop_model.specs.declared.geo.Row.{Row}
use Rattle.sop_model.specs.declared.geo.Head.{Head}
use Rattle.sop_model.specs.declared.fault.CookStop.{CookStop}
use Rattle.sop_model.specs.declared.fault.CookStop.TheVariants as stop
use Rattle.sop_model.specs.declared.value.Kind.{Kind}
use Rattle.sop_model.specs.declared.value.Kind.TheVariants as kind
use Rattle.sop_model.specs.declared.value.Value.{Value}
use Rattle.sop_model.specs.declared.value.Value.TheVariants as value
use Rattle.sop_model.specs.Names.{is_name}
use Rattle.sop_model.specs.Values.{kind_of, default_of, is_value_within}
use Rattle.sop_model.specs.Geometry.{rows_of, BeginsWithPosition}
use Rattle.sop_model.specs.Rows.{with_value, with_rows, rows_held, kind_at, head_named, attr_added, attr_deleted}
use Rattle.sop_rows.proofs.FirstLemmas.{same_bytes}
use Rattle.sop_net.specs.Network.{parm_at}
use Rattle.sop_vault.specs.Vaults.{VaultMap}
use Rattle.sop_basic.specs.ParmTexts.{class_in}
use Rattle.sop_basic.specs.Outcomes.{limited, then_with}
use Rattle.sop_basic.specs.Making.{Gives}
use Rattle.sop_basic.specs.Selecting.{by_pattern, StopsWith}
use Rattle.sop_basic.specs.Heads.{is_position, is_kind, with_head, with_head_at, with_column_at, with_column}
use Rattle.sop_basic.specs.Fillings.{rows_filled, filled, ReadsValue}
use Rattle.sop_basic.specs.AttribCreate.{kind_in, value_said, value_in, may_have, value_told, set_where, set_under, created, attrib_create_geo}
use Rattle.sop_basic.proofs.MakingLemmas.{kept_same}
use Rattle.sop_basic.proofs.SelectLemmas.{stops_at_once}
use Rattle.sop_basic.proofs.ColumnLemmas.{cell_at, row_own, rows_own}

-- ---- the value that is told
pub told_by : (parms : List (List ℕ)) (class : Class) (name : List ℕ) (wanted : Kind) (text : List ℕ) → class ≡ class_in (parm_at parms 0) → name ≡ parm_at parms 1 → wanted ≡ kind_in (parm_at parms 2) → text ≡ parm_at parms 3
    → (if may_have class name wanted then value_in wanted text else None) ≡ value_told parms
told_by parms class name wanted text a b c d =
    ap (λ x. if may_have x name wanted then value_in wanted text else None) a
    ∙ ap (λ x. if may_have (class_in (parm_at parms 0)) x wanted then value_in wanted text else None) b
    ∙ ap (λ x. if may_have (class_in (parm_at parms 0)) (parm_at parms 1) x then value_in x text else None) c
    ∙ ap (λ x. if may_have (class_in (parm_at parms 0)) (parm_at parms 1) (kind_in (parm_at parms 2)) then value_in (kind_in (parm_at parms 2)) x else None) d

-- a value that is said is of the kind, and within its limits
default_kind : (k : Kind) → kind_of (default_of k) ≡ k
default_kind kind.Int = refl
default_kind kind.Real = refl
default_kind kind.Vector = refl
default_kind kind.Str = refl
default_kind kind.Ints = refl
default_kind kind.Reals = refl
default_kind kind.Vectors = refl
default_kind kind.Strs = refl

default_within : (k : Kind) → is_value_within (default_of k) ≡ true
default_within kind.Int = refl
default_within kind.Real = refl
default_within kind.Vector = refl
default_within kind.Str = refl
default_within kind.Ints = refl
default_within kind.Reals = refl
default_within kind.Vectors = refl
default_within kind.Strs = refl

-- what holds of each value that may come
from_map : {A : Type 0} (P : Value → Type 0) (f : A → Value) (o : Option A) (v : Value) → ((x : A) → P (f x)) → option_map f o ≡ Some v → P v
from_map P f None v each is = absurd (cc)
from_map P f (Some x) v each is = let e : f x ≡ v = cc in subst P e (each x)

from_if : (P : Value → Type 0) (b : Bool) (w v : Value) → P w → (if b then Some w else None) ≡ Some v → P v
from_if P true w v holds is = let e : w ≡ v = cc in subst P e holds
from_if P false w v holds is = absurd (cc)

said_kind : (k : Kind) (text : List ℕ) (v : Value) → value_said k text ≡ Some v → kind_of v ≡ k
said_kind kind.Int text v is = from_map (λ v. kind_of v ≡ kind.Int) value.Int (result_ok (whole_number_of text)) v (λ n. refl) is
said_kind kind.Real text v is = from_map (λ v. kind_of v ≡ kind.Real) value.Real (result_ok (value_of text)) v (λ x. refl) is
said_kind kind.Vector text v is = from_if (λ v. kind_of v ≡ kind.Vector) _ _ v refl is
said_kind kind.Str text v is = let e : value.Str text ≡ v = cc in ap kind_of (sym e)
said_kind kind.Ints text v is = absurd (cc)
said_kind kind.Reals text v is = absurd (cc)
said_kind kind.Vectors text v is = absurd (cc)
said_kind kind.Strs text v is = absurd (cc)

said_within : (k : Kind) (text : List ℕ) (v : Value) → length text ≤ 1024 → value_said k text ≡ Some v → is_value_within v ≡ true
said_within kind.Int text v few is = from_map (λ v. is_value_within v ≡ true) value.Int (result_ok (whole_number_of text)) v (λ n. refl) is
said_within kind.Real text v few is = from_map (λ v. is_value_within v ≡ true) value.Real (result_ok (value_of text)) v (λ x. refl) is
said_within kind.Vector text v few is = from_if (λ v. is_value_within v ≡ true) _ _ v refl is
said_within kind.Str text v few is = let e : value.Str text ≡ v = cc in ap is_value_within (sym e) ∙ le-leb (length text) 4096 (omega (arith, few))
said_within kind.Ints text v few is = absurd (cc)
said_within kind.Reals text v few is = absurd (cc)
said_within kind.Vectors text v few is = absurd (cc)
said_within kind.Strs text v few is = absurd (cc)

in_kind : (k : Kind) (text : List ℕ) (v : Value) → value_in k text ≡ Some v → kind_of v ≡ k
in_kind k [] v is = let e : default_of k ≡ v = cc in ap kind_of (sym e) ∙ default_kind k
in_kind k (byte ∷ text) v is = said_kind k (byte ∷ text) v is

in_within : (k : Kind) (text : List ℕ) (v : Value) → length text ≤ 1024 → value_in k text ≡ Some v → is_value_within v ≡ true
in_within k [] v few is = let e : default_of k ≡ v = cc in ap is_value_within (sym e) ∙ default_within k
in_within k (byte ∷ text) v few is = said_within k (byte ∷ text) v few is

-- both parts of what was told
told_parts : (b : Bool) (o : Option Value) (v : Value) → (if b then o else None) ≡ Some v → (b ≡ true) × (o ≡ Some v)
told_parts true o v is = (refl, is)
told_parts false o v is = absurd (cc)

pub told_fits : (parms : List (List ℕ)) (v : Value) → value_told parms ≡ Some v → may_have (class_in (parm_at parms 0)) (parm_at parms 1) (kind_of v) ≡ true
told_fits parms v is =
    let wanted = kind_in (parm_at parms 2) in
    let (may, says) = told_parts (may_have (class_in (parm_at parms 0)) (parm_at parms 1) wanted) (value_in wanted (parm_at parms 3)) v is in
    ap (may_have (class_in (parm_at parms 0)) (parm_at parms 1)) (in_kind wanted (parm_at parms 3) v says) ∙ may

pub told_within : (parms : List (List ℕ)) (v : Value) → length (parm_at parms 3) ≤ 1024 → value_told parms ≡ Some v → is_value_within v ≡ true
told_within parms v few is =
    let wanted = kind_in (parm_at parms 2) in
    let (may, says) = told_parts (may_have (class_in (parm_at parms 0)) (parm_at parms 1) wanted) (value_in wanted (parm_at parms 3)) v is in
    in_within wanted (parm_at parms 3) v few says

-- ---- the node
pub create_refused : (parms : List (List ℕ)) (vault : VaultMap) (s : CookStop) → ReadsValue (value_told parms) (Err s) → (g : Geo) → Gives vault vault (limited (attrib_create_geo parms g)) (Err s)
create_refused parms vault (stop.Fault f) (none, bad) g =
    (ap (λ o. limited (created (class_in (parm_at parms 0)) (parm_at parms 1) (parm_at parms 4) g o)) none ∙ ap Err (sym bad), kept_same vault)
create_refused parms vault stop.Memory t g = kept_same vault

-- what is told where the value is
module _ (parms : List (List ℕ)) (class : Class) (name group : List ℕ) (v : Value) (class_is : class ≡ class_in (parm_at parms 0)) (name_is : name ≡ parm_at parms 1) (group_is : group ≡ parm_at parms 4) (is : value_told parms ≡ Some v) where
  told : (g : Geo) → created class name group g (Some v) ≡ attrib_create_geo parms g
  told g =
      ap (λ c. created c name group g (Some v)) class_is
      ∙ ap (λ n. created (class_in (parm_at parms 0)) n group g (Some v)) name_is
      ∙ ap (λ t. created (class_in (parm_at parms 0)) (parm_at parms 1) t g (Some v)) group_is
      ∙ sym (ap (created (class_in (parm_at parms 0)) (parm_at parms 1) (parm_at parms 4) g) is)

  pub create_is : (g : Geo) (flags : List Bool) → by_pattern g class group ≡ Ok flags → Ok (set_under class name v g flags) ≡ attrib_create_geo parms g
  create_is g flags selected = sym (ap (λ r. then_with r (λ flags. Ok (set_under class name v g flags))) selected) ∙ told g

  pub create_stops : (vault : VaultMap) (g : Geo) (s : CookStop) → StopsWith (by_pattern g class group) s → Gives vault vault (limited (attrib_create_geo parms g)) (Err s)
  create_stops vault g s stops = subst (λ o. Gives vault vault (limited o) (Err s)) (told g) (stops_at_once vault (by_pattern g class group) (λ flags. Ok (set_under class name v g flags)) s stops)

-- ---- values under an attribute where elements are selected
rows_set : (v : Value) (head k : ℕ) (flags : List Bool) (rows : List Row) → rows_held head rows (set_where v flags (map (cell_at head) rows)) ≡ rows_filled (λ k. v) head k flags rows
rows_set v head k [] rows = rows_own head rows
rows_set v head k (on ∷ flags) [] = refl
rows_set v head k (true ∷ flags) (row ∷ rows) = ap (λ rs. with_value head v row ∷ rs) (rows_set v head (suc k) flags rows)
rows_set v head k (false ∷ flags) (row ∷ rows) =
    ap (λ r. r ∷ rows_held head rows (set_where v flags (map (cell_at head) rows))) (row_own head row) ∙ ap (λ rs. row ∷ rs) (rows_set v head k flags rows)

pub set_is : (v : Value) (g : Geo) (class : Class) (name : List ℕ) (head : ℕ) (flags : List Bool) → head_named g class name ≡ Some head → filled (λ k. v) class head flags g ≡ with_column g class name (set_where v flags)
set_is v g class name head flags named = sym (ap (with_column_at g class (set_where v flags)) named ∙ ap (with_rows g class) (rows_set v head 0 flags (rows_of g class)))

-- ---- the points' `P`
first_named : (heads : List Head) → BeginsWithPosition heads → (position (λ h. bytes_eq h.name (codes "P")) heads ≡ Some 0) × (option_map (λ h. h.kind) (slice_get heads 0) ≡ Some kind.Vector)
first_named [] begins = absurd (cc)
first_named (h ∷ heads) begins =
    let name = ap (λ (h : Head). bytes_eq h.name (codes "P")) begins in
    let first : position_or_len (λ (h : Head). bytes_eq h.name (codes "P")) (h ∷ heads) ≡ 0 = ap (λ b. cond (not b) (1 + position_or_len (λ (h : Head). bytes_eq h.name (codes "P")) heads) 0) name in
    let in_it : nat_lt 0 (suc (length heads)) ≡ true = lt-ltb 0 (suc (length heads)) (omega arith) in
    (ap (λ n. cond (nat_lt n (suc (length heads))) (Some n) None) first ∙ ap (λ b. cond b (Some 0) None) in_it, ap (λ (h : Head). Some h.kind) begins)

pub place_named : (g : Geo) (class : Class) (name : List ℕ) → BeginsWithPosition g.point.heads → is_position class name ≡ true → (head_named g class name ≡ Some 0) × (kind_at g class 0 ≡ Some kind.Vector)
place_named g Detail name begins is = absurd (cc)
place_named g Prim name begins is = absurd (cc)
place_named g Vertex name begins is = absurd (cc)
place_named g Point name begins is =
    let first = first_named g.point.heads begins in
    (ap (λ n. position (λ (h : Head). bytes_eq h.name n) g.point.heads) (same_bytes name (codes "P") is) ∙ first.0, first.1)

pub places_stay : (g : Geo) (class : Class) (name : List ℕ) (k : Kind) → k ≡ kind.Vector → head_named g class name ≡ Some 0 → kind_at g class 0 ≡ Some kind.Vector → with_head g class (record { name = name; kind = k }) ≡ g
places_stay g class name k vector named kinded =
    let h = λ (k : Kind). with_head g class (record { name = name; kind = k }) in
    let same : is_kind kind.Vector (kind_at g class 0) ≡ true = ap (is_kind kind.Vector) kinded in
    ap h vector ∙ ap (with_head_at g class (record { name = name; kind = kind.Vector })) named
    ∙ ap (λ b. if b then g else attr_added (attr_deleted g class 0) class (record { name = name; kind = kind.Vector })) same

-- the kind that a class may have under a name
vector_of : (k : Kind) → is_kind kind.Vector (Some k) ≡ true → k ≡ kind.Vector
vector_of kind.Vector is = refl
vector_of other is = absurd (cc)

pub may_vector : (class : Class) (name : List ℕ) (k : Kind) → may_have class name k ≡ true → is_position class name ≡ true → k ≡ kind.Vector
may_vector class name k may here =
    let second = (and_parts (is_name name) (not (is_position class name) || is_kind kind.Vector (Some k)) may).1 in
    vector_of k (sym (ap (λ b. not b || is_kind kind.Vector (Some k)) here) ∙ second)

pub may_name : (class : Class) (name : List ℕ) (k : Kind) → may_have class name k ≡ true → is_name name ≡ true
may_name class name k may = (and_parts (is_name name) (not (is_position class name) || is_kind kind.Vector (Some k)) may).0
