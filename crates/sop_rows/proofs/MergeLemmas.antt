-- Rows under other heads and groups, and the heads and groups of a merge.
use Rattle.std.proofs.Common.{◌≡◌, ℕ, Bool, true, false, cond, not, List, [], ◌∷◌, ◌++◌, length, map, Option, Some, None, refl, ap, sym, ◌∙◌, arith, inl, inr}
use Rattle.std.specs.Prelude.{filter, All, option_map, unwrap_or, ◌⊎◌}
use Rattle.std.specs.Result.{result_ok}
use Rattle.sop_fixed.specs.Arithmetic.{real_of_int}
use Rattle.std.specs.List.{flat_map}
use Rattle.std.specs.Str.{bytes_eq}
use Rattle.std.proofs.lemmas.Bool.{cases_Bool}
use Rattle.std.proofs.lemmas.List.Concat.{flat_map-append}
use Rattle.std.proofs.lemmas.List.Elements.{All-nil, All-cons, All-weaker}
use Rattle.sop_model.specs.declared.class.Class.{Class}
use Rattle.sop_model.specs.declared.class.Class.TheVariants.{Detail, Prim, Point, Vertex}
use Rattle.sop_model.specs.declared.geo.Geo.{Geo}
use Rattle.sop_model.specs.declared.geo.Row.{Row}
use Rattle.sop_model.specs.declared.geo.Head.{Head}
use Rattle.sop_model.specs.declared.geo.HeadSet.{HeadSet}
use Rattle.sop_model.specs.declared.value.Kind.{Kind}
use Rattle.sop_model.specs.declared.value.Kind.TheVariants as kind
use Rattle.sop_model.specs.declared.value.Value.{Value}
use Rattle.sop_model.specs.declared.value.Value.TheVariants as value
use Rattle.sop_model.specs.Values.{kind_of, default_of, put}
use Rattle.sop_model.specs.Names.{are_distinct}
use Rattle.sop_model.specs.Geometry.{heads_of}
use Rattle.sop_model.specs.Merge.{first_heads, first_names, joined_set, value_under, flag_under, fitted, row_under, joined}
use Rattle.sop_model.proofs.RowLists.{map_agree}
use Rattle.sop_rows.proofs.RowSound.{kind_of-default_of}
use Rattle.sop_rows.proofs.FirstLemmas.{same_bytes, firsts, under, under-here, under-later, under-firsts, under-append, under_none-append, each_under, firsts_distinct, firsts-firsts}

-- NAMES

abbrev pub head_name : Head → List ℕ
head_name h = h.name

abbrev pub own_name : List ℕ → List ℕ
own_name name = name

pub first_heads_is : (hs : List Head) → first_heads hs ≡ firsts head_name hs
first_heads_is [] = refl
first_heads_is (h ∷ hs) = ap (λ r. h ∷ filter (λ (k : Head). not (bytes_eq h.name k.name)) r) (first_heads_is hs)

pub first_names_is : (names : List (List ℕ)) → first_names names ≡ firsts own_name names
first_names_is [] = refl
first_names_is (n ∷ names) = ap (λ r. n ∷ filter (λ k. not (bytes_eq n k)) r) (first_names_is names)

-- VALUES AND FLAGS UNDER A NAME

pub value-here : (h : Head) (hs : List Head) (v : Value) (vs : List Value) (name : List ℕ) → bytes_eq h.name name ≡ true → value_under (h ∷ hs) (v ∷ vs) name ≡ Some v
value-here h hs v vs name e = ap (λ (b : Bool). cond b (Some v) (value_under hs vs name)) e

pub value-later : (h : Head) (hs : List Head) (v : Value) (vs : List Value) (name : List ℕ) → bytes_eq h.name name ≡ false → value_under (h ∷ hs) (v ∷ vs) name ≡ value_under hs vs name
value-later h hs v vs name e = ap (λ (b : Bool). cond b (Some v) (value_under hs vs name)) e

-- of values that a function gives of the heads
pub value_under-map : (f : Head → Value) (hs : List Head) (name : List ℕ) → value_under hs (map f hs) name ≡ option_map f (under head_name hs name)
value_under-map f [] name = refl
value_under-map f (h ∷ hs) name = elim (cases_Bool (bytes_eq h.name name)) [
  | inl same ↦ value-here h hs (f h) (map f hs) name same ∙ sym (ap (option_map f) (under-here head_name h hs name same))
  | inr apart ↦ value-later h hs (f h) (map f hs) name apart ∙ value_under-map f hs name ∙ sym (ap (option_map f) (under-later head_name h hs name apart))
]

pub value_under-none : (hs : List Head) (vs : List Value) (name : List ℕ) → under head_name hs name ≡ None → value_under hs vs name ≡ None
value_under-none [] vs name is = refl
value_under-none (h ∷ hs) [] name is = refl
value_under-none (h ∷ hs) (v ∷ vs) name is = elim (cases_Bool (bytes_eq h.name name)) [
  | inl same ↦ let found = under-here head_name h hs name same in cc
  | inr apart ↦ value-later h hs v vs name apart ∙ value_under-none hs vs name (sym (under-later head_name h hs name apart) ∙ is)
]

pub value_under-some : (hs : List Head) (vs : List Value) (name : List ℕ) (h : Head) → length vs ≡ length hs → under head_name hs name ≡ Some h → (v : Value) × (value_under hs vs name ≡ Some v)
value_under-some [] vs name k long is = cc
value_under-some (h ∷ hs) [] name k long is = absurd (omega arith)
value_under-some (h ∷ hs) (v ∷ vs) name k long is = elim (cases_Bool (bytes_eq h.name name)) [
  | inl same ↦ (v, value-here h hs v vs name same)
  | inr apart ↦
      let rest = value_under-some hs vs name k (omega arith) (sym (under-later head_name h hs name apart) ∙ is) in
      (rest.0, value-later h hs v vs name apart ∙ rest.1)
]

pub flag-here : (g : List ℕ) (groups : List (List ℕ)) (f : Bool) (flags : List Bool) (name : List ℕ) → bytes_eq g name ≡ true → flag_under (g ∷ groups) (f ∷ flags) name ≡ f
flag-here g groups f flags name e = ap (λ (b : Bool). cond b f (flag_under groups flags name)) e

pub flag-later : (g : List ℕ) (groups : List (List ℕ)) (f : Bool) (flags : List Bool) (name : List ℕ) → bytes_eq g name ≡ false → flag_under (g ∷ groups) (f ∷ flags) name ≡ flag_under groups flags name
flag-later g groups f flags name e = ap (λ (b : Bool). cond b f (flag_under groups flags name)) e

pub flag_under-none : (groups : List (List ℕ)) (flags : List Bool) (name : List ℕ) → under own_name groups name ≡ None → flag_under groups flags name ≡ false
flag_under-none [] flags name is = refl
flag_under-none (g ∷ groups) [] name is = refl
flag_under-none (g ∷ groups) (f ∷ flags) name is = elim (cases_Bool (bytes_eq g name)) [
  | inl same ↦ let found = under-here own_name g groups name same in cc
  | inr apart ↦ flag-later g groups f flags name apart ∙ flag_under-none groups flags name (sym (under-later own_name g groups name apart) ∙ is)
]

-- of flags that a function gives of the groups
flag_under-map : (f : List ℕ → Bool) (groups : List (List ℕ)) (name : List ℕ) → (under own_name groups name ≡ None → f name ≡ false) → flag_under groups (map f groups) name ≡ f name
flag_under-map f [] name other = sym (other refl)
flag_under-map f (g ∷ groups) name other = elim (cases_Bool (bytes_eq g name)) [
  | inl same ↦ flag-here g groups (f g) (map f groups) name same ∙ ap f (same_bytes g name same)
  | inr apart ↦ flag-later g groups (f g) (map f groups) name apart ∙ flag_under-map f groups name (λ none. other (under-later own_name g groups name apart ∙ none))
]

-- VALUES PUT UNDER A HEAD

real_kind : {X : Type 0} (f : X → Value) → ((x : X) → kind_of (f x) ≡ kind.Real) → (o : Option X) (w : Value) → option_map f o ≡ Some w → kind_of w ≡ kind.Real
real_kind f is None w e = cc
real_kind f is (Some x) w e = let same : f x ≡ w = cc in ap kind_of (sym same) ∙ is x

pub put_kind : (k : Kind) (v w : Value) → put k v ≡ Some w → kind_of w ≡ k
put_kind kind.Int (value.Int n) w is = cc
put_kind kind.Int (value.Real x) w is = cc
put_kind kind.Int v w is = cc
put_kind kind.Real (value.Int n) w is = real_kind (λ x. value.Real x) (λ x. refl) (result_ok (real_of_int n)) w is
put_kind kind.Real (value.Real x) w is = cc
put_kind kind.Real v w is = cc
put_kind kind.Vector (value.Vector x) w is = cc
put_kind kind.Vector v w is = cc
put_kind kind.Str (value.Str text) w is = cc
put_kind kind.Str v w is = cc
put_kind kind.Ints (value.Ints list) w is = cc
put_kind kind.Ints v w is = cc
put_kind kind.Reals (value.Reals list) w is = cc
put_kind kind.Reals v w is = cc
put_kind kind.Vectors (value.Vectors list) w is = cc
put_kind kind.Vectors v w is = cc
put_kind kind.Strs (value.Strs list) w is = cc
put_kind kind.Strs v w is = cc

pub put_own : (v : Value) → put (kind_of v) v ≡ Some v
put_own (value.Int n) = refl
put_own (value.Real x) = refl
put_own (value.Vector x) = refl
put_own (value.Str text) = refl
put_own (value.Ints list) = refl
put_own (value.Reals list) = refl
put_own (value.Vectors list) = refl
put_own (value.Strs list) = refl

put_or_default : (k : Kind) (o : Option Value) → ((w : Value) → o ≡ Some w → kind_of w ≡ k) → kind_of (unwrap_or o (default_of k)) ≡ k
put_or_default k None is = kind_of-default_of k
put_or_default k (Some w) is = is w refl

pub kind_of-fitted : (h : Head) (o : Option Value) → kind_of (fitted h o) ≡ h.kind
kind_of-fitted h None = kind_of-default_of h.kind
kind_of-fitted h (Some v) = put_or_default h.kind (put h.kind v) (put_kind h.kind v)

pub fitted_own : (h : Head) (v : Value) → kind_of v ≡ h.kind → fitted h (Some v) ≡ v
fitted_own h v is = ap (λ (k : Kind). unwrap_or (put k v) (default_of h.kind)) (sym is) ∙ ap (λ (o : Option Value). unwrap_or o (default_of h.kind)) (put_own v)

pub fitted_again : (h : Head) (o : Option Value) → fitted h (Some (fitted h o)) ≡ fitted h o
fitted_again h o = fitted_own h (fitted h o) (kind_of-fitted h o)

-- ROWS UNDER OTHER HEADS AND AGAIN OTHERS

-- each head that both have is the same
pub record Follows (new mid : HeadSet) : Type 0 where
  pub heads : All (λ h. (under head_name mid.heads h.name ≡ Some h) ⊎ (under head_name mid.heads h.name ≡ None)) new.heads

-- every name of the old heads and groups is there
pub record HasNamesOf (mid old : HeadSet) : Type 0 where
  pub heads : (name : List ℕ) → under head_name mid.heads name ≡ None → under head_name old.heads name ≡ None
  pub groups : (name : List ℕ) → under own_name mid.groups name ≡ None → under own_name old.groups name ≡ None

module _ (new mid old : HeadSet) (has : HasNamesOf mid old) (row : Row) where
  value_twice : (h : Head) → (under head_name mid.heads h.name ≡ Some h) ⊎ (under head_name mid.heads h.name ≡ None) → fitted h (value_under mid.heads (row_under mid old row).values h.name) ≡ fitted h (value_under old.heads row.values h.name)
  value_twice h which =
      let inner = λ (k : Head). fitted k (value_under old.heads row.values k.name) in
      let seen = value_under-map inner mid.heads h.name in
      elim which [
        | inl there ↦ ap (fitted h) (seen ∙ ap (option_map inner) there) ∙ fitted_again h (value_under old.heads row.values h.name)
        | inr none ↦ ap (fitted h) (seen ∙ ap (option_map inner) none) ∙ ap (fitted h) (sym (value_under-none old.heads row.values h.name (has.heads h.name none)))
      ]

  flag_twice : (name : List ℕ) → flag_under mid.groups (row_under mid old row).flags name ≡ flag_under old.groups row.flags name
  flag_twice name = flag_under-map (flag_under old.groups row.flags) mid.groups name (λ none. flag_under-none old.groups row.flags name (has.groups name none))

  flags_twice : (names : List (List ℕ)) → map (flag_under mid.groups (row_under mid old row).flags) names ≡ map (flag_under old.groups row.flags) names
  flags_twice [] = refl
  flags_twice (name ∷ names) =
      let here = flag_twice name in
      let rest = flags_twice names in
      cc

  pub row_under-twice : Follows new mid → row_under new mid (row_under mid old row) ≡ row_under new old row
  row_under-twice follows =
      let P : Head → Type 0 = λ h. (under head_name mid.heads h.name ≡ Some h) ⊎ (under head_name mid.heads h.name ≡ None) in
      let Q : Head → Type 0 = λ h. fitted h (value_under mid.heads (row_under mid old row).values h.name) ≡ fitted h (value_under old.heads row.values h.name) in
      let vs = map_agree (λ h. fitted h (value_under mid.heads (row_under mid old row).values h.name)) (λ h. fitted h (value_under old.heads row.values h.name)) new.heads (All-weaker P Q value_twice new.heads follows.heads) in
      let fs = flags_twice new.groups in
      λ j. record { values = vs j; flags = fs j }

-- THE HEADS AND GROUPS OF A MERGE

pub heads_of-joined : (class : Class) (gs : List Geo) → heads_of (joined gs) class ≡ joined_set class gs
heads_of-joined Detail gs = refl
heads_of-joined Prim gs = refl
heads_of-joined Point gs = refl
heads_of-joined Vertex gs = refl

abbrev pub all_heads : Class → List Geo → List Head
all_heads class gs = flat_map (λ g. (heads_of g class).heads) gs

abbrev pub all_groups : Class → List Geo → List (List ℕ)
all_groups class gs = flat_map (λ g. (heads_of g class).groups) gs

pub under-joined : (class : Class) (gs : List Geo) (name : List ℕ) → under head_name (joined_set class gs).heads name ≡ under head_name (all_heads class gs) name
under-joined class gs name = ap (λ hs. under head_name hs name) (first_heads_is (all_heads class gs)) ∙ under-firsts head_name (all_heads class gs) name

pub group_under-joined : (class : Class) (gs : List Geo) (name : List ℕ) → under own_name (joined_set class gs).groups name ≡ under own_name (all_groups class gs) name
group_under-joined class gs name = ap (λ ns. under own_name ns name) (first_names_is (all_groups class gs)) ∙ under-firsts own_name (all_groups class gs) name

-- what stands under no name of a merge does so in each input
none_in_each : (class : Class) (name : List ℕ) (gs : List Geo) → under head_name (all_heads class gs) name ≡ None → All (λ g. under head_name (heads_of g class).heads name ≡ None) gs
none_in_each class name [] none = All-nil (λ g. under head_name (heads_of g class).heads name ≡ None)
none_in_each class name (g ∷ gs) none =
    let both = under_none-append head_name (heads_of g class).heads (all_heads class gs) name none in
    All-cons (λ g. under head_name (heads_of g class).heads name ≡ None) g gs both.0 (none_in_each class name gs both.1)

no_group_in_each : (class : Class) (name : List ℕ) (gs : List Geo) → under own_name (all_groups class gs) name ≡ None → All (λ g. under own_name (heads_of g class).groups name ≡ None) gs
no_group_in_each class name [] none = All-nil (λ g. under own_name (heads_of g class).groups name ≡ None)
no_group_in_each class name (g ∷ gs) none =
    let both = under_none-append own_name (heads_of g class).groups (all_groups class gs) name none in
    All-cons (λ g. under own_name (heads_of g class).groups name ≡ None) g gs both.0 (no_group_in_each class name gs both.1)

-- a merge has the names of each input
pub names_in_joined : (class : Class) (gs : List Geo) → All (λ g. HasNamesOf (joined_set class gs) (heads_of g class)) gs
names_in_joined class gs k d lt = record {
  heads = λ name none. none_in_each class name gs (sym (under-joined class gs name) ∙ none) k d lt;
  groups = λ name none. no_group_in_each class name gs (sym (group_under-joined class gs name) ∙ none) k d lt;
}

-- a merge of more inputs has the heads of the first ones as they are
pub joined_follows : (class : Class) (gs more : List Geo) → Follows (joined_set class (gs ++ more)) (joined_set class gs)
joined_follows class gs more = record {
  heads =
      let P : Head → Type 0 = λ h. under head_name (joined_set class (gs ++ more)).heads h.name ≡ Some h in
      let Q : Head → Type 0 = λ h. (under head_name (joined_set class gs).heads h.name ≡ Some h) ⊎ (under head_name (joined_set class gs).heads h.name ≡ None) in
      let hs = (joined_set class (gs ++ more)).heads in
      All-weaker P Q (λ h own. which h (under head_name (joined_set class gs).heads h.name) refl own) hs (each_under head_name hs distinct);
}
  where
    distinct : are_distinct (map head_name (joined_set class (gs ++ more)).heads) ≡ true
    distinct = ap (λ hs. are_distinct (map head_name hs)) (first_heads_is (all_heads class (gs ++ more))) ∙ firsts_distinct head_name (all_heads class (gs ++ more))

    which : (h : Head) (o : Option Head) → under head_name (joined_set class gs).heads h.name ≡ o → under head_name (joined_set class (gs ++ more)).heads h.name ≡ Some h → (under head_name (joined_set class gs).heads h.name ≡ Some h) ⊎ (under head_name (joined_set class gs).heads h.name ≡ None)
    which h None is own = inr is
    which h (Some k) is own =
        let one = under-append head_name (all_heads class gs) (all_heads class more) h.name k (sym (under-joined class gs h.name) ∙ is) in
        let two = ap (λ hs. under head_name hs h.name) (flat_map-append (λ g. (heads_of g class).heads) gs more) in
        let three = under-joined class (gs ++ more) h.name in
        let same : k ≡ h = cc in
        inl (is ∙ ap Some same)

-- the heads and groups of a merge with others behind
pub joined_set-joined : (class : Class) (gs more : List Geo) → joined_set class (joined gs ∷ more) ≡ joined_set class (gs ++ more)
joined_set-joined class gs more =
    let hs = ap (λ (set : HeadSet). first_heads (set.heads ++ all_heads class more)) (heads_of-joined class gs) ∙ heads_again in
    let ns = ap (λ (set : HeadSet). first_names (set.groups ++ all_groups class more)) (heads_of-joined class gs) ∙ groups_again in
    λ j. record { heads = hs j; groups = ns j }
  where
    heads_again : first_heads (first_heads (all_heads class gs) ++ all_heads class more) ≡ first_heads (all_heads class (gs ++ more))
    heads_again =
        first_heads_is (first_heads (all_heads class gs) ++ all_heads class more) ∙ ap (λ hs. firsts head_name (hs ++ all_heads class more)) (first_heads_is (all_heads class gs))
        ∙ firsts-firsts head_name (all_heads class gs) (all_heads class more) ∙ sym (first_heads_is (all_heads class gs ++ all_heads class more))
        ∙ ap first_heads (sym (flat_map-append (λ g. (heads_of g class).heads) gs more))

    groups_again : first_names (first_names (all_groups class gs) ++ all_groups class more) ≡ first_names (all_groups class (gs ++ more))
    groups_again =
        first_names_is (first_names (all_groups class gs) ++ all_groups class more) ∙ ap (λ ns. firsts own_name (ns ++ all_groups class more)) (first_names_is (all_groups class gs))
        ∙ firsts-firsts own_name (all_groups class gs) (all_groups class more) ∙ sym (first_names_is (all_groups class gs ++ all_groups class more))
        ∙ ap first_names (sym (flat_map-append (λ g. (heads_of g class).groups) gs more))
