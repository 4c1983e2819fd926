-- Names of heads and groups: what one more and one less leaves, and what a name that isn't there tells.
use Rattle.std.proofs.Common.{◌≡◌, ℕ, zero, suc, ◌+◌, ◌<◌, ◌≤◌, Bool, true, false, cond, not, ◌||◌, ltb, List, [], ◌∷◌, ◌++◌, length, map, Some, None, refl, ap, sym, ◌∙◌, subst, arith, inl, inr}
use Rattle.std.specs.Prelude.{position, remove, IsTrue}
use Rattle.std.specs.List.{list_any, list_all, position_or_len}
use Rattle.std.specs.Str.{bytes_eq}
use Rattle.std.proofs.lemmas.Bool.{cases_Bool, ltb-false, and_parts, and_from, or_parts, or_from, not-true, not_from_false}
use Rattle.std.proofs.lemmas.List.{map-append}
use Rattle.sop_model.specs.declared.geo.Head.{Head}
use Rattle.sop_model.specs.declared.geo.HeadSet.{HeadSet}
use Rattle.sop_model.specs.Names.{is_name, are_distinct}
use Rattle.sop_model.specs.Geometry.{IsNamed, BeginsWithPosition}
use Rattle.sop_model.specs.Rows.{with_last_head, with_last_group, without_head}
use Rattle.sop_model.proofs.RowLists.{map-remove}

module _ {X : Type 0} (p : X → Bool) where
  list_any-push : (xs : List X) (y : X) → list_any p xs ≡ false → p y ≡ false → list_any p (xs ++ y ∷ []) ≡ false
  list_any-push [] y none last = or_from (p y) false last refl
  list_any-push (x ∷ xs) y none last = let both = or_parts (p x) (list_any p xs) none in or_from (p x) (list_any p (xs ++ y ∷ [])) both.0 (list_any-push xs y both.1 last)

  list_all-push : (xs : List X) (y : X) → list_all p xs ≡ true → p y ≡ true → list_all p (xs ++ y ∷ []) ≡ true
  list_all-push [] y all last = and_from (p y) true last refl
  list_all-push (x ∷ xs) y all last = let both = and_parts (p x) (list_all p xs) all in and_from (p x) (list_all p (xs ++ y ∷ [])) both.0 (list_all-push xs y both.1 last)

  list_any-remove : (xs : List X) (i : ℕ) → list_any p xs ≡ false → list_any p (remove xs i) ≡ false
  list_any-remove [] zero none = refl
  list_any-remove [] (suc i) none = refl
  list_any-remove (x ∷ xs) zero none = (or_parts (p x) (list_any p xs) none).1
  list_any-remove (x ∷ xs) (suc i) none = let both = or_parts (p x) (list_any p xs) none in or_from (p x) (list_any p (remove xs i)) both.0 (list_any-remove xs i both.1)

  list_all-remove : (xs : List X) (i : ℕ) → list_all p xs ≡ true → list_all p (remove xs i) ≡ true
  list_all-remove [] zero all = refl
  list_all-remove [] (suc i) all = refl
  list_all-remove (x ∷ xs) zero all = (and_parts (p x) (list_all p xs) all).1
  list_all-remove (x ∷ xs) (suc i) all = let both = and_parts (p x) (list_all p xs) all in and_from (p x) (list_all p (remove xs i)) both.0 (list_all-remove xs i both.1)

  -- where no place passes, none passes
  none_by_place : (xs : List X) → length xs ≤ position_or_len p xs → list_any p xs ≡ false
  none_by_place [] far = refl
  none_by_place (x ∷ xs) far = elim (cases_Bool (p x)) [
    | inl passed ↦ let here : position_or_len p (x ∷ xs) ≡ 0 = ap (λ (b : Bool). cond (not b) (1 + position_or_len p xs) 0) passed in absurd (omega arith)
    | inr failed ↦ let there : position_or_len p (x ∷ xs) ≡ 1 + position_or_len p xs = ap (λ (b : Bool). cond (not b) (1 + position_or_len p xs) 0) failed in or_from (p x) (list_any p xs) failed (none_by_place xs (omega arith))
  ]

  pub none_from_position : (xs : List X) → position p xs ≡ None → list_any p xs ≡ false
  none_from_position xs is = elim (cases_Bool (ltb (position_or_len p xs) (length xs))) [
    | inl passed ↦ let found = ap (λ (b : Bool). cond b (Some (position_or_len p xs)) None) passed in cc
    | inr failed ↦ none_by_place xs (ltb-false (position_or_len p xs) (length xs) failed)
  ]

list_any-map : {X Y : Type 0} (p : Y → Bool) (f : X → Y) (xs : List X) → list_any p (map f xs) ≡ list_any (λ x. p (f x)) xs
list_any-map p f [] = refl
list_any-map p f (x ∷ xs) = ap (λ (b : Bool). p (f x) || b) (list_any-map p f xs)

are_distinct-push : (names : List (List ℕ)) (name : List ℕ) → are_distinct names ≡ true → list_any (λ k. bytes_eq k name) names ≡ false → are_distinct (names ++ name ∷ []) ≡ true
are_distinct-push [] name distinct free = refl
are_distinct-push (n ∷ names) name distinct free =
    let both = and_parts (not (list_any (bytes_eq n) names)) (are_distinct names) distinct in
    let apart = or_parts (bytes_eq n name) (list_any (λ k. bytes_eq k name) names) free in
    and_from (not (list_any (bytes_eq n) (names ++ name ∷ []))) (are_distinct (names ++ name ∷ []))
    (not_from_false (list_any (bytes_eq n) (names ++ name ∷ [])) (list_any-push (bytes_eq n) names name (not-true (list_any (bytes_eq n) names) both.0) apart.0))
    (are_distinct-push names name both.1 apart.1)

are_distinct-remove : (names : List (List ℕ)) (i : ℕ) → are_distinct names ≡ true → are_distinct (remove names i) ≡ true
are_distinct-remove [] zero distinct = refl
are_distinct-remove [] (suc i) distinct = refl
are_distinct-remove (n ∷ names) zero distinct = (and_parts (not (list_any (bytes_eq n) names)) (are_distinct names) distinct).1
are_distinct-remove (n ∷ names) (suc i) distinct =
    let both = and_parts (not (list_any (bytes_eq n) names)) (are_distinct names) distinct in
    and_from (not (list_any (bytes_eq n) (remove names i))) (are_distinct (remove names i))
    (not_from_false (list_any (bytes_eq n) (remove names i)) (list_any-remove (bytes_eq n) names i (not-true (list_any (bytes_eq n) names) both.0)))
    (are_distinct-remove names i both.1)

-- HEADS AND GROUPS

pub IsNamed-last_head : (set : HeadSet) (head : Head) → IsNamed set → IsTrue (is_name head.name) → position (λ h. bytes_eq h.name head.name) set.heads ≡ None → IsNamed (with_last_head set head)
IsNamed-last_head set head named is free =
    let names = map-append (λ (h : Head). h.name) set.heads (head ∷ []) in
    let none = list_any-map (λ k. bytes_eq k head.name) (λ (h : Head). h.name) set.heads ∙ none_from_position (λ (h : Head). bytes_eq h.name head.name) set.heads free in
    record {
      heads = subst (λ ns. IsTrue (list_all is_name ns)) (sym names) (list_all-push is_name (map (λ h. h.name) set.heads) head.name named.heads is);
      groups = named.groups;
      distinct_heads = subst (λ ns. IsTrue (are_distinct ns)) (sym names) (are_distinct-push (map (λ h. h.name) set.heads) head.name named.distinct_heads none);
      distinct_groups = named.distinct_groups;
    }

pub IsNamed-last_group : (set : HeadSet) (name : List ℕ) → IsNamed set → IsTrue (is_name name) → position (λ group. bytes_eq group name) set.groups ≡ None → IsNamed (with_last_group set name)
IsNamed-last_group set name named is free = record {
  heads = named.heads;
  groups = list_all-push is_name set.groups name named.groups is;
  distinct_heads = named.distinct_heads;
  distinct_groups = are_distinct-push set.groups name named.distinct_groups (none_from_position (λ group. bytes_eq group name) set.groups free);
}

pub IsNamed-without_head : (set : HeadSet) (i : ℕ) → IsNamed set → IsNamed (without_head set i)
IsNamed-without_head set i named =
    let names = map-remove (λ (h : Head). h.name) set.heads i in
    record {
      heads = subst (λ ns. IsTrue (list_all is_name ns)) (sym names) (list_all-remove is_name (map (λ h. h.name) set.heads) i named.heads);
      groups = named.groups;
      distinct_heads = subst (λ ns. IsTrue (are_distinct ns)) (sym names) (are_distinct-remove (map (λ h. h.name) set.heads) i named.distinct_heads);
      distinct_groups = named.distinct_groups;
    }

pub begins-append : (heads more : List Head) → BeginsWithPosition heads → BeginsWithPosition (heads ++ more)
begins-append [] more begins = cc
begins-append (h ∷ heads) more begins = begins

pub begins-remove : (heads : List Head) (i : ℕ) → 0 < i → BeginsWithPosition heads → BeginsWithPosition (remove heads i)
begins-remove [] i later begins = cc
begins-remove (h ∷ heads) zero later begins = absurd (omega arith)
begins-remove (h ∷ heads) (suc i) later begins = begins
