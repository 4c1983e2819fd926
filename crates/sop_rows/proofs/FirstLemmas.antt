-- The first appearances in a list, by a name: what they are of lists in a row, and what is found under a name.
use Rattle.std.proofs.Common.{◌≡◌, Bool, true, false, cond, not, ◌&&◌, ◌||◌, ℕ, List, [], ◌∷◌, ◌++◌, map, Option, Some, None, refl, ap, sym, ◌∙◌, inl, inr}
use Rattle.std.specs.Prelude.{filter, find, All}
use Rattle.std.specs.List.{list_any, list_all}
use Rattle.std.specs.Str.{bytes_eq}
use Rattle.std.proofs.lemmas.Bool.{cases_Bool, and_parts, and_from, or_parts, or_left, not-true, not_from_false, not_from_true, false≢true}
use Rattle.std.proofs.lemmas.List.Elements.{All-nil, All-cons, All-head, All-tail, filter-append, filter_agree}
use Rattle.std.proofs.lemmas.Slice.Eq.{bytes_eq-Decides}
use Rattle.sop_model.specs.Names.{are_distinct}

pub bytes_same : (name : List ℕ) → bytes_eq name name ≡ true
bytes_same name = (bytes_eq-Decides name name).1 refl

pub same_bytes : (a b : List ℕ) → bytes_eq a b ≡ true → a ≡ b
same_bytes a b e = (bytes_eq-Decides a b).0 e

-- FILTERS

module _ {X : Type 0} where
  filter-yes : (p : X → Bool) (x : X) (xs : List X) → p x ≡ true → filter p (x ∷ xs) ≡ x ∷ filter p xs
  filter-yes p x xs e = ap (λ (b : Bool). cond b (x ∷ filter p xs) (filter p xs)) e

  filter-no : (p : X → Bool) (x : X) (xs : List X) → p x ≡ false → filter p (x ∷ xs) ≡ filter p xs
  filter-no p x xs e = ap (λ (b : Bool). cond b (x ∷ filter p xs) (filter p xs)) e

  pub filter_all : (p : X → Bool) (xs : List X) → list_any (λ x. not (p x)) xs ≡ false → filter p xs ≡ xs
  filter_all p [] none = refl
  filter_all p (x ∷ xs) none =
      let both = or_parts (not (p x)) (list_any (λ x. not (p x)) xs) none in
      elim (cases_Bool (p x)) [
        | inl passed ↦ filter-yes p x xs passed ∙ ap (λ r. x ∷ r) (filter_all p xs both.1)
        | inr failed ↦ absurd (false≢true (sym both.0 ∙ not_from_false (p x) failed))
      ]

  pub filter-filter : (p q : X → Bool) (xs : List X) → filter p (filter q xs) ≡ filter (λ x. q x && p x) xs
  filter-filter p q [] = refl
  filter-filter p q (x ∷ xs) = elim (cases_Bool (q x)) [
    | inl here ↦
        ap (filter p) (filter-yes q x xs here) ∙ ap (λ r. cond (p x) (x ∷ r) r) (filter-filter p q xs)
        ∙ ap (λ (b : Bool). cond b (x ∷ filter (λ x. q x && p x) xs) (filter (λ x. q x && p x) xs)) (sym (ap (λ (b : Bool). b && p x) here))
    | inr gone ↦
        ap (filter p) (filter-no q x xs gone) ∙ filter-filter p q xs
        ∙ ap (λ (b : Bool). cond b (x ∷ filter (λ x. q x && p x) xs) (filter (λ x. q x && p x) xs)) (sym (ap (λ (b : Bool). b && p x) gone))
  ]

  list_any-filter : (p q : X → Bool) (xs : List X) → list_any p xs ≡ false → list_any p (filter q xs) ≡ false
  list_any-filter p q [] none = refl
  list_any-filter p q (x ∷ xs) none =
      let both = or_parts (p x) (list_any p xs) none in
      elim (cases_Bool (q x)) [
        | inl here ↦ ap (list_any p) (filter-yes q x xs here) ∙ ap (λ (b : Bool). b || list_any p (filter q xs)) both.0 ∙ list_any-filter p q xs both.1
        | inr gone ↦ ap (list_any p) (filter-no q x xs gone) ∙ list_any-filter p q xs both.1
      ]

  pub list_all-filter : (p q : X → Bool) (xs : List X) → list_all p xs ≡ true → list_all p (filter q xs) ≡ true
  list_all-filter p q [] all = refl
  list_all-filter p q (x ∷ xs) all =
      let both = and_parts (p x) (list_all p xs) all in
      elim (cases_Bool (q x)) [
        | inl here ↦ ap (list_all p) (filter-yes q x xs here) ∙ and_from (p x) (list_all p (filter q xs)) both.0 (list_all-filter p q xs both.1)
        | inr gone ↦ ap (list_all p) (filter-no q x xs gone) ∙ list_all-filter p q xs both.1
      ]

  list_any-passed : (p : X → Bool) (xs : List X) → list_any p (filter (λ x. not (p x)) xs) ≡ false
  list_any-passed p [] = refl
  list_any-passed p (x ∷ xs) = elim (cases_Bool (p x)) [
    | inl here ↦ ap (list_any p) (filter-no (λ x. not (p x)) x xs (not_from_true (p x) here)) ∙ list_any-passed p xs
    | inr gone ↦ ap (list_any p) (filter-yes (λ x. not (p x)) x xs (not_from_false (p x) gone)) ∙ ap (λ (b : Bool). b || list_any p (filter (λ x. not (p x)) xs)) gone ∙ list_any-passed p xs
  ]

list_any-map : {X Y : Type 0} (p : Y → Bool) (f : X → Y) (xs : List X) → list_any p (map f xs) ≡ list_any (λ x. p (f x)) xs
list_any-map p f [] = refl
list_any-map p f (x ∷ xs) = ap (λ (b : Bool). p (f x) || b) (list_any-map p f xs)

pub list_all-map : {X Y : Type 0} (p : Y → Bool) (f : X → Y) (xs : List X) → list_all p (map f xs) ≡ list_all (λ x. p (f x)) xs
list_all-map p f [] = refl
list_all-map p f (x ∷ xs) = ap (λ (b : Bool). p (f x) && b) (list_all-map p f xs)

neither : (a b : Bool) → not (a || b) ≡ (not b && not a)
neither true true = refl
neither true false = refl
neither false true = refl
neither false false = refl

and_itself : (b : Bool) → (b && b) ≡ b
and_itself true = refl
and_itself false = refl

-- FIRST APPEARANCES

module _ {X : Type 0} (key : X → List ℕ) where
  -- the items whose name doesn't stand before
  abbrev pub firsts : List X → List X
  firsts [] = []
  firsts (x ∷ xs) = x ∷ filter (λ y. not (bytes_eq (key x) (key y))) (firsts xs)

  abbrev pub has_name : List X → List ℕ → Bool
  has_name xs name = list_any (λ x. bytes_eq (key x) name) xs

  abbrev pub under : List X → List ℕ → Option X
  under xs name = find (λ x. bytes_eq (key x) name) xs

  -- the items with a name that none of the others has
  abbrev pub unseen : List X → List X → List X
  unseen seen xs = filter (λ y. not (has_name seen (key y))) xs

  unseen-cons : (x : X) (seen ys : List X) → filter (λ y. not (bytes_eq (key x) (key y))) (unseen seen ys) ≡ unseen (x ∷ seen) ys
  unseen-cons x seen ys =
      filter-filter (λ y. not (bytes_eq (key x) (key y))) (λ y. not (has_name seen (key y))) ys
      ∙ filter_agree (λ y. not (has_name seen (key y)) && not (bytes_eq (key x) (key y))) (λ y. not (bytes_eq (key x) (key y) || has_name seen (key y))) (λ y. sym (neither (bytes_eq (key x) (key y)) (has_name seen (key y)))) ys

  unseen-nil : (ys : List X) → unseen [] ys ≡ ys
  unseen-nil [] = refl
  unseen-nil (y ∷ ys) = ap (λ r. y ∷ r) (unseen-nil ys)

  pub firsts-append : (xs ys : List X) → firsts (xs ++ ys) ≡ firsts xs ++ unseen xs (firsts ys)
  firsts-append [] ys = sym (unseen-nil (firsts ys))
  firsts-append (x ∷ xs) ys =
      let d = λ (y : X). not (bytes_eq (key x) (key y)) in
      ap (λ r. x ∷ filter d r) (firsts-append xs ys)
      ∙ ap (λ r. x ∷ r) (filter-append d (firsts xs) (unseen xs (firsts ys)))
      ∙ ap (λ r. x ∷ (filter d (firsts xs) ++ r)) (unseen-cons x xs (firsts ys))

  has-filter : (name other : List ℕ) → bytes_eq other name ≡ false → (xs : List X) → has_name (filter (λ y. not (bytes_eq other (key y))) xs) name ≡ has_name xs name
  has-filter name other ne [] = refl
  has-filter name other ne (x ∷ xs) =
      let d = λ (y : X). not (bytes_eq other (key y)) in
      elim (cases_Bool (bytes_eq other (key x))) [
        | inl same ↦
            let key_is = same_bytes other (key x) same in
            ap (λ zs. has_name zs name) (filter-no d x xs (not_from_true (bytes_eq other (key x)) same)) ∙ has-filter name other ne xs
            ∙ sym (ap (λ (b : Bool). b || has_name xs name) (ap (λ k. bytes_eq k name) (sym key_is) ∙ ne))
        | inr apart ↦
            ap (λ zs. has_name zs name) (filter-yes d x xs (not_from_false (bytes_eq other (key x)) apart))
            ∙ ap (λ (b : Bool). bytes_eq (key x) name || b) (has-filter name other ne xs)
      ]

  pub has-firsts : (xs : List X) (name : List ℕ) → has_name (firsts xs) name ≡ has_name xs name
  has-firsts [] name = refl
  has-firsts (x ∷ xs) name = elim (cases_Bool (bytes_eq (key x) name)) [
    | inl same ↦ or_left (bytes_eq (key x) name) (has_name (filter (λ y. not (bytes_eq (key x) (key y))) (firsts xs)) name) same ∙ sym (or_left (bytes_eq (key x) name) (has_name xs name) same)
    | inr apart ↦ ap (λ (b : Bool). bytes_eq (key x) name || b) (has-filter name (key x) apart (firsts xs) ∙ has-firsts xs name)
  ]

  -- ARE THEIR NAMES APART

  distinct-filter : (p : X → Bool) (xs : List X) → are_distinct (map key xs) ≡ true → are_distinct (map key (filter p xs)) ≡ true
  distinct-filter p [] e = refl
  distinct-filter p (x ∷ xs) e =
      let both = and_parts (not (list_any (bytes_eq (key x)) (map key xs))) (are_distinct (map key xs)) e in
      elim (cases_Bool (p x)) [
        | inl here ↦
            let none = sym (list_any-map (bytes_eq (key x)) key xs) ∙ not-true (list_any (bytes_eq (key x)) (map key xs)) both.0 in
            ap (λ zs. are_distinct (map key zs)) (filter-yes p x xs here)
            ∙ and_from (not (list_any (bytes_eq (key x)) (map key (filter p xs)))) (are_distinct (map key (filter p xs)))
            (not_from_false (list_any (bytes_eq (key x)) (map key (filter p xs))) (list_any-map (bytes_eq (key x)) key (filter p xs) ∙ list_any-filter (λ y. bytes_eq (key x) (key y)) p xs none))
            (distinct-filter p xs both.1)
        | inr gone ↦ ap (λ zs. are_distinct (map key zs)) (filter-no p x xs gone) ∙ distinct-filter p xs both.1
      ]

  pub firsts_distinct : (xs : List X) → are_distinct (map key (firsts xs)) ≡ true
  firsts_distinct [] = refl
  firsts_distinct (x ∷ xs) =
      let zs = filter (λ y. not (bytes_eq (key x) (key y))) (firsts xs) in
      and_from (not (list_any (bytes_eq (key x)) (map key zs))) (are_distinct (map key zs))
      (not_from_false (list_any (bytes_eq (key x)) (map key zs)) (list_any-map (bytes_eq (key x)) key zs ∙ list_any-passed (λ y. bytes_eq (key x) (key y)) (firsts xs)))
      (distinct-filter (λ y. not (bytes_eq (key x) (key y))) (firsts xs) (firsts_distinct xs))

  pub firsts_same : (xs : List X) → are_distinct (map key xs) ≡ true → firsts xs ≡ xs
  firsts_same [] e = refl
  firsts_same (x ∷ xs) e =
      let both = and_parts (not (list_any (bytes_eq (key x)) (map key xs))) (are_distinct (map key xs)) e in
      let none = sym (list_any-map (bytes_eq (key x)) key xs) ∙ not-true (list_any (bytes_eq (key x)) (map key xs)) both.0 in
      let d = λ (y : X). not (bytes_eq (key x) (key y)) in
      ap (λ zs. x ∷ filter d zs) (firsts_same xs both.1) ∙ ap (λ r. x ∷ r) (filter_all d xs (not_twice x xs none))
    where
      not_twice : (x : X) (ys : List X) → list_any (λ y. bytes_eq (key x) (key y)) ys ≡ false → list_any (λ y. not (not (bytes_eq (key x) (key y)))) ys ≡ false
      not_twice x [] none = refl
      not_twice x (y ∷ ys) none =
          let both = or_parts (bytes_eq (key x) (key y)) (list_any (λ y. bytes_eq (key x) (key y)) ys) none in
          ap (λ (b : Bool). not (not b) || list_any (λ y. not (not (bytes_eq (key x) (key y)))) ys) both.0 ∙ not_twice x ys both.1

  -- first appearances in a row with others
  pub firsts-firsts : (xs ys : List X) → firsts (firsts xs ++ ys) ≡ firsts (xs ++ ys)
  firsts-firsts xs ys =
      firsts-append (firsts xs) ys ∙ ap (λ r. r ++ unseen (firsts xs) (firsts ys)) (firsts_same (firsts xs) (firsts_distinct xs))
      ∙ ap (λ r. firsts xs ++ r) (filter_agree (λ y. not (has_name (firsts xs) (key y))) (λ y. not (has_name xs (key y))) (λ y. ap not (has-firsts xs (key y))) (firsts ys))
      ∙ sym (firsts-append xs ys)

  -- an item that stands twice
  pub firsts-twice : (x : X) (xs : List X) → firsts (x ∷ (x ∷ xs)) ≡ firsts (x ∷ xs)
  firsts-twice x xs =
      let d = λ (y : X). not (bytes_eq (key x) (key y)) in
      ap (λ r. x ∷ r) (filter-no d x (filter d (firsts xs)) (not_from_true (bytes_eq (key x) (key x)) (bytes_same (key x)))
      ∙ filter-filter d d (firsts xs) ∙ filter_agree (λ y. d y && d y) d (λ y. and_itself (d y)) (firsts xs))

  pub list_all-firsts : (p : List ℕ → Bool) (xs : List X) → list_all p (map key xs) ≡ true → list_all p (map key (firsts xs)) ≡ true
  list_all-firsts p xs all = list_all-map p key (firsts xs) ∙ over xs (sym (list_all-map p key xs) ∙ all)
    where
      over : (xs : List X) → list_all (λ x. p (key x)) xs ≡ true → list_all (λ x. p (key x)) (firsts xs) ≡ true
      over [] all = refl
      over (x ∷ xs) all =
          let both = and_parts (p (key x)) (list_all (λ x. p (key x)) xs) all in
          let d = λ (y : X). not (bytes_eq (key x) (key y)) in
          and_from (p (key x)) (list_all (λ x. p (key x)) (filter d (firsts xs))) both.0 (list_all-filter (λ x. p (key x)) d (firsts xs) (over xs both.1))

  -- WHAT STANDS UNDER A NAME

  under-filter : (name other : List ℕ) → bytes_eq other name ≡ false → (xs : List X) → under (filter (λ y. not (bytes_eq other (key y))) xs) name ≡ under xs name
  under-filter name other ne [] = refl
  under-filter name other ne (x ∷ xs) =
      let d = λ (y : X). not (bytes_eq other (key y)) in
      elim (cases_Bool (bytes_eq other (key x))) [
        | inl same ↦
            let key_is = same_bytes other (key x) same in
            ap (λ zs. under zs name) (filter-no d x xs (not_from_true (bytes_eq other (key x)) same)) ∙ under-filter name other ne xs
            ∙ sym (ap (λ (b : Bool). cond b (Some x) (under xs name)) (ap (λ k. bytes_eq k name) (sym key_is) ∙ ne))
        | inr apart ↦
            ap (λ zs. under zs name) (filter-yes d x xs (not_from_false (bytes_eq other (key x)) apart))
            ∙ ap (λ r. cond (bytes_eq (key x) name) (Some x) r) (under-filter name other ne xs)
      ]

  pub under-here : (x : X) (xs : List X) (name : List ℕ) → bytes_eq (key x) name ≡ true → under (x ∷ xs) name ≡ Some x
  under-here x xs name e = ap (λ (b : Bool). cond b (Some x) (under xs name)) e

  pub under-later : (x : X) (xs : List X) (name : List ℕ) → bytes_eq (key x) name ≡ false → under (x ∷ xs) name ≡ under xs name
  under-later x xs name e = ap (λ (b : Bool). cond b (Some x) (under xs name)) e

  pub under-firsts : (xs : List X) (name : List ℕ) → under (firsts xs) name ≡ under xs name
  under-firsts [] name = refl
  under-firsts (x ∷ xs) name = elim (cases_Bool (bytes_eq (key x) name)) [
    | inl same ↦ under-here x (filter (λ y. not (bytes_eq (key x) (key y))) (firsts xs)) name same ∙ sym (under-here x xs name same)
    | inr apart ↦
        under-later x (filter (λ y. not (bytes_eq (key x) (key y))) (firsts xs)) name apart ∙ under-filter name (key x) apart (firsts xs) ∙ under-firsts xs name
        ∙ sym (under-later x xs name apart)
  ]

  -- each item of a list without repeats stands under its own name
  pub each_under : (xs : List X) → are_distinct (map key xs) ≡ true → All (λ x. under xs (key x) ≡ Some x) xs
  each_under [] e = All-nil (λ x. under [] (key x) ≡ Some x)
  each_under (x ∷ xs) e =
      let both = and_parts (not (list_any (bytes_eq (key x)) (map key xs))) (are_distinct (map key xs)) e in
      let none = sym (list_any-map (bytes_eq (key x)) key xs) ∙ not-true (list_any (bytes_eq (key x)) (map key xs)) both.0 in
      All-cons (λ y. under (x ∷ xs) (key y) ≡ Some y) x xs (under-here x xs (key x) (bytes_same (key x))) (past x xs xs none (each_under xs both.1))
    where
      past : (x : X) (xs ys : List X) → list_any (λ y. bytes_eq (key x) (key y)) ys ≡ false → All (λ y. under xs (key y) ≡ Some y) ys → All (λ y. under (x ∷ xs) (key y) ≡ Some y) ys
      past x xs [] none all = All-nil (λ y. under (x ∷ xs) (key y) ≡ Some y)
      past x xs (y ∷ ys) none all =
          let both = or_parts (bytes_eq (key x) (key y)) (list_any (λ y. bytes_eq (key x) (key y)) ys) none in
          All-cons (λ y. under (x ∷ xs) (key y) ≡ Some y) y ys (under-later x xs (key y) both.0 ∙ All-head (λ y. under xs (key y) ≡ Some y) y ys all)
          (past x xs ys both.1 (All-tail (λ y. under xs (key y) ≡ Some y) y ys all))

  pub under-append : (xs ys : List X) (name : List ℕ) (x : X) → under xs name ≡ Some x → under (xs ++ ys) name ≡ Some x
  under-append [] ys name x is = cc
  under-append (z ∷ xs) ys name x is = elim (cases_Bool (bytes_eq (key z) name)) [
    | inl same ↦ under-here z (xs ++ ys) name same ∙ sym (under-here z xs name same) ∙ is
    | inr apart ↦ under-later z (xs ++ ys) name apart ∙ under-append xs ys name x (sym (under-later z xs name apart) ∙ is)
  ]

  pub under_none-append : (xs ys : List X) (name : List ℕ) → under (xs ++ ys) name ≡ None → (under xs name ≡ None) × (under ys name ≡ None)
  under_none-append [] ys name is = (refl, is)
  under_none-append (z ∷ xs) ys name is = elim (cases_Bool (bytes_eq (key z) name)) [
    | inl same ↦ let found = under-here z (xs ++ ys) name same in cc
    | inr apart ↦
        let rest = under_none-append xs ys name (sym (under-later z (xs ++ ys) name apart) ∙ is) in
        (under-later z xs name apart ∙ rest.0, rest.1)
  ]

  pub under-skip : (xs ys : List X) (name : List ℕ) → under xs name ≡ None → under (xs ++ ys) name ≡ under ys name
  under-skip [] ys name none = refl
  under-skip (z ∷ xs) ys name none = elim (cases_Bool (bytes_eq (key z) name)) [
    | inl same ↦ let found = under-here z xs name same in cc
    | inr apart ↦ under-later z (xs ++ ys) name apart ∙ under-skip xs ys name (sym (under-later z xs name apart) ∙ none)
  ]

  pub has_none : (xs : List X) (name : List ℕ) → under xs name ≡ None → has_name xs name ≡ false
  has_none [] name is = refl
  has_none (z ∷ xs) name is = elim (cases_Bool (bytes_eq (key z) name)) [
    | inl same ↦ let found = under-here z xs name same in cc
    | inr apart ↦ ap (λ (b : Bool). b || has_name xs name) apart ∙ has_none xs name (sym (under-later z xs name apart) ∙ is)
  ]

  pub none_has : (xs : List X) (name : List ℕ) → has_name xs name ≡ false → under xs name ≡ None
  none_has [] name is = refl
  none_has (z ∷ xs) name is =
      let both = or_parts (bytes_eq (key z) name) (has_name xs name) is in
      under-later z xs name both.0 ∙ none_has xs name both.1
