-- Different names that are all among some others are no more than these.
use Rattle.std.proofs.Common.{◌≡◌, ℕ, suc, ◌≤◌, ◌<◌, List, [], ◌∷◌, length, refl, ap, ◌∙◌, arith, Bool, true, false, not, inl, inr}
use Rattle.std.specs.Prelude.{◌||◌, filter}
use Rattle.std.specs.List.{list_all, items_where_true, flat_map}
use Rattle.std.specs.Str.{bytes_eq}
use Rattle.std.proofs.lemmas.Bool.{cases_Bool, and_parts, and_from}
use Rattle.std.proofs.lemmas.List.Folds.{list_all-append}
use Rattle.sop_model.specs.declared.class.Class.TheVariants.{Prim}
use Rattle.sop_model.specs.declared.geo.Geo.{Geo}
use Rattle.sop_model.specs.declared.geo.Primitive.{Primitive}
use Rattle.sop_model.specs.Limits.{most_groups}
use Rattle.sop_model.specs.Names.{are_distinct}
use Rattle.sop_model.specs.Merge.{first_names}
use Rattle.sop_model.specs.Geometry.{Fits}
use Rattle.sop_model.proofs.LimitsLemmas.{fits_within, within_groups}
use Rattle.geo_text.specs.ObjMeaning.{is_among}
use Rattle.geo_text.specs.ObjText.{groups_of}
use Rattle.geo_text.specs.Carried.{used_groups}
use Rattle.geo_text.proofs.ObjGrouping.{Names, or_parts, same_name, other_stays}

abbrev without : List ℕ → Names → Names
without d names = filter (λ k. not (bytes_eq d k)) names

no_more : (d : List ℕ) (names : Names) → length (without d names) ≤ length names
no_more d [] = omega arith
no_more d (y ∷ names) =
    let rest = no_more d names in
    elim (cases_Bool (bytes_eq d y)) [
      | inl same ↦ (let e : length (without d (y ∷ names)) ≡ length (without d names) = rw same refl in omega (arith, e, rest))
      | inr other ↦ (let e : length (without d (y ∷ names)) ≡ suc (length (without d names)) = rw other refl in omega (arith, e, rest))
    ]

one_fewer : (d : List ℕ) (names : Names) → is_among names d ≡ true → length (without d names) < length names
one_fewer d [] h = cc
one_fewer d (y ∷ names) h =
    elim (cases_Bool (bytes_eq d y)) [
      | inl same ↦ (let e : length (without d (y ∷ names)) ≡ length (without d names) = rw same refl in let rest = no_more d names in omega (arith, e, rest))
      | inr other ↦ (
          let e : length (without d (y ∷ names)) ≡ suc (length (without d names)) = rw other refl in
          let later : is_among names d ≡ true = rw other at h in
          let rest = one_fewer d names later in
          omega (arith, e, rest))
    ]

all_without : (d : List ℕ) (names few : Names) → is_among few d ≡ false → list_all (is_among names) few ≡ true → list_all (is_among (without d names)) few ≡ true
all_without d names [] lone h = refl
all_without d names (x ∷ few) lone h =
    let apart = or_parts (bytes_eq d x) (is_among few d) lone in
    let parts = and_parts (is_among names x) (list_all (is_among names) few) h in
    and_from (is_among (without d names) x) (list_all (is_among (without d names)) few) (other_stays names x d apart.0 ∙ parts.0) (all_without d names few apart.1 parts.1)

is_not : (b : Bool) → not b ≡ true → b ≡ false
is_not true h = cc
is_not false h = refl

pub pigeon : (few names : Names) → are_distinct few ≡ true → list_all (is_among names) few ≡ true → length few ≤ length names
pigeon [] names d h = omega arith
pigeon (x ∷ few) names d h =
    let apart = and_parts (not (is_among few x)) (are_distinct few) d in
    let parts = and_parts (is_among names x) (list_all (is_among names) few) h in
    let fewer = one_fewer x names parts.0 in
    let rest = pigeon few (without x names) apart.1 (all_without x names few (is_not (is_among few x) apart.0) parts.1) in
    omega (arith, fewer, rest)

-- ---- the names in order of first use are different
among_filtered : (p : List ℕ → Bool) (names : Names) (x : List ℕ) → is_among names x ≡ false → is_among (filter p names) x ≡ false
among_filtered p [] x h = refl
among_filtered p (y ∷ names) x h =
    let parts = or_parts (bytes_eq x y) (is_among names x) h in
    let rest = among_filtered p names x parts.1 in
    elim (cases_Bool (p y)) [
      | inl kept ↦ rw kept (rw parts.0 rest)
      | inr gone ↦ rw gone rest
    ]

distinct_filtered : (p : List ℕ → Bool) (names : Names) → are_distinct names ≡ true → are_distinct (filter p names) ≡ true
distinct_filtered p [] h = refl
distinct_filtered p (y ∷ names) h =
    let parts = and_parts (not (is_among names y)) (are_distinct names) h in
    let rest = distinct_filtered p names parts.1 in
    elim (cases_Bool (p y)) [
      | inl kept ↦ rw kept (and_from (not (is_among (filter p names) y)) (are_distinct (filter p names)) (ap not (among_filtered p names y (is_not (is_among names y) parts.0))) rest)
      | inr gone ↦ rw gone rest
    ]

gone_without : (x : List ℕ) (names : Names) → is_among (without x names) x ≡ false
gone_without x [] = refl
gone_without x (y ∷ names) =
    elim (cases_Bool (bytes_eq x y)) [
      | inl same ↦ rw same (gone_without x names)
      | inr other ↦ rw other (rw other (gone_without x names))
    ]

pub distinct_first : (names : Names) → are_distinct (first_names names) ≡ true
distinct_first [] = refl
distinct_first (x ∷ names) =
    and_from (not (is_among (without x (first_names names)) x)) (are_distinct (without x (first_names names))) (ap not (gone_without x (first_names names)))
    (distinct_filtered (λ k. not (bytes_eq x k)) (first_names names) (distinct_first names))

-- ---- the groups that are used are among the groups
all_filtered : (q p : List ℕ → Bool) (names : Names) → list_all q names ≡ true → list_all q (filter p names) ≡ true
all_filtered q p [] h = refl
all_filtered q p (y ∷ names) h =
    let parts = and_parts (q y) (list_all q names) h in
    let rest = all_filtered q p names parts.1 in
    elim (cases_Bool (p y)) [
      | inl kept ↦ rw kept (and_from (q y) (list_all q (filter p names)) parts.0 rest)
      | inr gone ↦ rw gone rest
    ]

all_first : (q : List ℕ → Bool) (names : Names) → list_all q names ≡ true → list_all q (first_names names) ≡ true
all_first q [] h = refl
all_first q (x ∷ names) h =
    let parts = and_parts (q x) (list_all q names) h in
    and_from (q x) (list_all q (without x (first_names names))) parts.0 (all_filtered q (λ k. not (bytes_eq x k)) (first_names names) (all_first q names parts.1))

all_chosen : (q : List ℕ → Bool) (flags : List Bool) (names : Names) → list_all q names ≡ true → list_all q (items_where_true flags names) ≡ true
all_chosen q [] names h = refl
all_chosen q (b ∷ flags) [] h = refl
all_chosen q (true ∷ flags) (x ∷ names) h =
    let parts = and_parts (q x) (list_all q names) h in
    and_from (q x) (list_all q (items_where_true flags names)) parts.0 (all_chosen q flags names parts.1)
all_chosen q (false ∷ flags) (x ∷ names) h = all_chosen q flags names (and_parts (q x) (list_all q names) h).1

or_second : (a b : Bool) → b ≡ true → (a || b) ≡ true
or_second true b h = refl
or_second false b h = h

among_more : (y : List ℕ) (names few : Names) → list_all (is_among names) few ≡ true → list_all (is_among (y ∷ names)) few ≡ true
among_more y names [] h = refl
among_more y names (x ∷ few) h =
    let parts = and_parts (is_among names x) (list_all (is_among names) few) h in
    and_from (is_among (y ∷ names) x) (list_all (is_among (y ∷ names)) few) (or_second (bytes_eq x y) (is_among names x) parts.0) (among_more y names few parts.1)

own : (names : Names) → list_all (is_among names) names ≡ true
own [] = refl
own (y ∷ names) = and_from (is_among (y ∷ names) y) (list_all (is_among (y ∷ names)) names) (rw (same_name y) refl) (among_more y names names (own names))

used_among : (g : Geo) (prims : List Primitive) → list_all (is_among g.prim.groups) (flat_map (groups_of g) prims) ≡ true
used_among g [] = refl
used_among g (p ∷ prims) =
    list_all-append (is_among g.prim.groups) (groups_of g p) (flat_map (groups_of g) prims)
    ∙ and_from (list_all (is_among g.prim.groups) (groups_of g p)) (list_all (is_among g.prim.groups) (flat_map (groups_of g) prims)) (all_chosen (is_among g.prim.groups) p.row.flags g.prim.groups (own g.prim.groups)) (used_among g prims)

pub used_few : (g : Geo) → Fits g → length (used_groups g) ≤ most_groups
used_few g f =
    let all = within_groups (fits_within f) Prim in
    let few = pigeon (used_groups g) g.prim.groups (distinct_first (flat_map (groups_of g) g.prims)) (all_first (is_among g.prim.groups) (flat_map (groups_of g) g.prims) (used_among g g.prims)) in
    omega (arith, all, few)
