-- Names of groups in order of first use, taken one by one.
use Rattle.std.proofs.Common.{◌≡◌, ℕ, suc, ◌+◌, ◌<◌, ◌≤◌, List, [], ◌∷◌, ◌++◌, length, map, take, drop, set, append_assoc, append-nil, length-append, refl, sym, ap, ◌∙◌, subst, arith, Option, Some, None, Bool, true, false, not, inl, inr, cond}
use Rattle.std.specs.Prelude.{◌||◌, nat_lt, filter, position, if◌then◌else◌, option_map}
use Rattle.std.specs.List.{list_any, list_all, position_or_len}
use Rattle.std.specs.Str.{bytes_eq}
use Rattle.std.specs.Cmp.Lexicographic.{bytes_decides, nat_list_eq_equiv}
use Rattle.std.proofs.lemmas.Bool.{cases_Bool, cases_lt, and_parts, and_from}
use Rattle.std.proofs.lemmas.List.{take-append-drop, length-take-le, take_all, take-append-le}
use Rattle.std.proofs.lemmas.Bool.Decides.{nat_tests}
use Rattle.sop_model.specs.Limits.{most_groups}
use Rattle.sop_model.specs.Names.{are_distinct}
use Rattle.sop_model.specs.Merge.{first_names}
use Rattle.geo_text.specs.ObjMeaning.{is_among}

abbrev pub Names : Type 0
Names = List (List ℕ)

-- ---- the first name that is another
abbrev pub found : List ℕ → Names → Option ℕ
found x [] = None
found x (y ∷ names) = if bytes_eq y x then Some 0 else option_map (λ n. suc n) (found x names)

later : (b : Bool) (n : ℕ) → cond b (Some (1 + n)) None ≡ option_map (λ n. suc n) (cond b (Some n) None)
later true n = let e : 1 + n ≡ suc n = omega arith in ap Some e
later false n = refl

first_test : (n : ℕ) → nat_lt 0 (suc n) ≡ true
first_test n = grind (arith, nat_tests)

later_test : (m n : ℕ) → nat_lt (1 + m) (suc n) ≡ nat_lt m n
later_test m n = grind (arith, nat_tests)

pub position_found : (x : List ℕ) (names : Names) → position (λ y. bytes_eq y x) names ≡ found x names
position_found x [] = refl
position_found x (y ∷ names) =
    elim (cases_Bool (bytes_eq y x)) [
      | inl same ↦ rw (same, first_test (length names)) refl
      | inr other ↦ rw other (
          ap (λ b. cond b (Some (1 + position_or_len (λ y. bytes_eq y x) names)) None) (later_test (position_or_len (λ y. bytes_eq y x) names) (length names))
          ∙ later (nat_lt (position_or_len (λ y. bytes_eq y x) names) (length names)) (position_or_len (λ y. bytes_eq y x) names)
          ∙ ap (option_map (λ n. suc n)) (position_found x names)
          )
    ]

-- ---- names among others
pub or_parts : (a b : Bool) → (a || b) ≡ false → (a ≡ false) × (b ≡ false)
or_parts true b h = cc
or_parts false b h = (refl, h)

or_none : (b : Bool) → (b || false) ≡ b
or_none true = refl
or_none false = refl

pub or_true : (b : Bool) → (b || true) ≡ true
or_true true = refl
or_true false = refl

or_assoc : (a b c : Bool) → ((a || b) || c) ≡ (a || (b || c))
or_assoc true b c = refl
or_assoc false b c = refl

not_false : (b : Bool) → not b ≡ true → b ≡ false
not_false true h = cc
not_false false h = refl

pub among_append : (xs ys : Names) (x : List ℕ) → is_among (xs ++ ys) x ≡ (is_among xs x || is_among ys x)
among_append [] ys x = refl
among_append (y ∷ xs) ys x = ap (λ b. bytes_eq x y || b) (among_append xs ys x) ∙ sym (or_assoc (bytes_eq x y) (is_among xs x) (is_among ys x))

pub among_last : (xs : Names) (x y : List ℕ) → is_among (xs ++ x ∷ []) y ≡ (is_among xs y || bytes_eq y x)
among_last xs x y = among_append xs (x ∷ []) y ∙ ap (λ b. is_among xs y || b) (or_none (bytes_eq y x))

pub same_name : (x : List ℕ) → bytes_eq x x ≡ true
same_name x = (bytes_decides x x).1 refl

-- ---- flags of names
pub unmarked_name : (names done : Names) (x : List ℕ) → is_among names x ≡ false → map (is_among done) names ≡ map (is_among (done ++ x ∷ [])) names
unmarked_name [] done x h = refl
unmarked_name (y ∷ names) done x h =
    let parts = or_parts (bytes_eq x y) (is_among names x) h in
    let other : bytes_eq y x ≡ false = nat_list_eq_equiv.symm y x ∙ parts.0 in
    let here : is_among done y ≡ is_among (done ++ x ∷ []) y = sym (or_none (is_among done y)) ∙ ap (λ b. is_among done y || b) (sym other) ∙ sym (among_last done x y) in
    ap (λ b. b ∷ map (is_among done) names) here ∙ ap (λ l. is_among (done ++ x ∷ []) y ∷ l) (unmarked_name names done x parts.1)

pub none_among : (names : Names) (x : List ℕ) → found x names ≡ None → is_among names x ≡ false
none_among [] x h = refl
none_among (y ∷ names) x h =
    elim (cases_Bool (bytes_eq y x)) [
      | inl same ↦ (let no : Some 0 ≡ None = rw same at h in cc)
      | inr other ↦ (
          let rest : option_map (λ n. suc n) (found x names) ≡ None = rw other at h in
          ap (λ b. b || is_among names x) (nat_list_eq_equiv.symm x y ∙ other) ∙ none_among names x (none_of (found x names) rest)
          )
    ]
  where
    none_of : (o : Option ℕ) → option_map (λ n. suc n) o ≡ None → o ≡ None
    none_of None e = refl
    none_of (Some n) e = cc

pub some_among : (names : Names) (x : List ℕ) (i : ℕ) → found x names ≡ Some i → is_among names x ≡ true
some_among [] x i h = cc
some_among (y ∷ names) x i h =
    elim (cases_Bool (bytes_eq y x)) [
      | inl same ↦ ap (λ b. b || is_among names x) (nat_list_eq_equiv.symm x y ∙ same)
      | inr other ↦ (
          let rest : option_map (λ n. suc n) (found x names) ≡ Some i = rw other at h in
          let (j, at) = some_of (found x names) i rest in
          ap (λ b. bytes_eq x y || b) (some_among names x j at) ∙ or_true (bytes_eq x y)
          )
    ]
  where
    some_of : (o : Option ℕ) (i : ℕ) → option_map (λ n. suc n) o ≡ Some i → (j : ℕ) × (o ≡ Some j)
    some_of None i e = cc
    some_of (Some n) i e = (n, refl)

shifted_some : (o : Option ℕ) (i : ℕ) → option_map (λ n. suc n) o ≡ Some i → (j : ℕ) × (o ≡ Some j) × (i ≡ suc j)
shifted_some None i e = cc
shifted_some (Some n) i e = let same : suc n ≡ i = cc in (n, refl, sym same)

pub marked_name : (names done : Names) (x : List ℕ) (i : ℕ) → are_distinct names ≡ true → found x names ≡ Some i → set (map (is_among done) names) i true ≡ map (is_among (done ++ x ∷ [])) names
marked_name [] done x i distinct h = cc
marked_name (y ∷ names) done x i distinct h =
    let parts = and_parts (not (is_among names y)) (are_distinct names) distinct in
    elim (cases_Bool (bytes_eq y x)) [
      | inl same ↦ (
          let first : Some 0 ≡ Some i = rw same at h in
          let zeroth : 0 ≡ i = cc in
          let is : y ≡ x = (bytes_decides y x).0 same in
          let alone : is_among names x ≡ false = subst (λ z. is_among names z ≡ false) is (not_false (is_among names y) parts.0) in
          let here : true ≡ is_among (done ++ x ∷ []) y = sym (or_true (is_among done y)) ∙ ap (λ b. is_among done y || b) (sym same) ∙ sym (among_last done x y) in
          ap (λ k. set (map (is_among done) (y ∷ names)) k true) (sym zeroth)
          ∙ ap (λ b. b ∷ map (is_among done) names) here ∙ ap (λ l. is_among (done ++ x ∷ []) y ∷ l) (unmarked_name names done x alone)
          )
      | inr other ↦ (
          let rest : option_map (λ n. suc n) (found x names) ≡ Some i = rw other at h in
          let (j, at, is) = shifted_some (found x names) i rest in
          let here : is_among done y ≡ is_among (done ++ x ∷ []) y = sym (or_none (is_among done y)) ∙ ap (λ b. is_among done y || b) (sym other) ∙ sym (among_last done x y) in
          ap (λ k. set (map (is_among done) (y ∷ names)) k true) is
          ∙ ap (λ b. b ∷ set (map (is_among done) names) j true) here ∙ ap (λ l. is_among (done ++ x ∷ []) y ∷ l) (marked_name names done x j parts.1 at)
          )
    ]

-- ---- names taken one by one, while there is room
abbrev pub has_room : Names → Bool
has_room names = nat_lt (length names) most_groups

abbrev pub added : List ℕ → Names → Names
added x names = if is_among names x then names else if has_room names then names ++ x ∷ [] else names

abbrev pub names_into : Names → Names → Names
names_into names [] = names
names_into names (x ∷ more) = names_into (added x names) more

any_last : (names : Names) (x y : List ℕ) → list_any (bytes_eq y) (names ++ x ∷ []) ≡ (is_among names y || bytes_eq y x)
any_last names x y = among_last names x y

distinct_last : (names : Names) (x : List ℕ) → are_distinct names ≡ true → is_among names x ≡ false → are_distinct (names ++ x ∷ []) ≡ true
distinct_last [] x d h = refl
distinct_last (y ∷ names) x d h =
    let parts = and_parts (not (is_among names y)) (are_distinct names) d in
    let apart = or_parts (bytes_eq x y) (is_among names x) h in
    let other : bytes_eq y x ≡ false = nat_list_eq_equiv.symm y x ∙ apart.0 in
    let alone : is_among (names ++ x ∷ []) y ≡ false = among_last names x y ∙ ap (λ b. b || bytes_eq y x) (not_false (is_among names y) parts.0) ∙ other in
    and_from (not (is_among (names ++ x ∷ []) y)) (are_distinct (names ++ x ∷ [])) (ap not alone) (distinct_last names x parts.1 apart.1)

pub added_distinct : (x : List ℕ) (names : Names) → are_distinct names ≡ true → are_distinct (added x names) ≡ true
added_distinct x names d =
    elim (cases_Bool (is_among names x)) [
      | inl there ↦ rw there d
      | inr new ↦ elim (cases_Bool (has_room names)) [
        | inl room ↦ rw (new, room) (distinct_last names x d new)
        | inr full ↦ rw (new, full) d
      ]
    ]

-- ---- a name that is there, or for which there is no room
abbrev pub is_settled : Names → List ℕ → Bool
is_settled names x = is_among names x || not (has_room names)

last_length : (names : Names) (x : List ℕ) → has_room names ≡ false → has_room (names ++ x ∷ []) ≡ false
last_length names x h = let e = length-append names (x ∷ []) in grind (arith, nat_tests)

settled_last : (names : Names) (x y : List ℕ) → is_settled names y ≡ true → is_settled (names ++ x ∷ []) y ≡ true
settled_last names x y h =
    elim (cases_Bool (is_among names y)) [
      | inl there ↦ rw (among_last names x y, there) refl
      | inr new ↦ (
          let full : not (has_room names) ≡ true = ap (λ b. b || not (has_room names)) (sym new) ∙ h in
          rw (last_length names x (not_false (has_room names) full)) (or_true (is_among (names ++ x ∷ []) y))
          )
    ]

settled_added : (x : List ℕ) (names : Names) (y : List ℕ) → is_settled names y ≡ true → is_settled (added x names) y ≡ true
settled_added x names y h =
    elim (cases_Bool (is_among names x)) [
      | inl there ↦ rw there h
      | inr new ↦ elim (cases_Bool (has_room names)) [
        | inl room ↦ rw (new, room) (settled_last names x y h)
        | inr full ↦ rw (new, full) h
      ]
    ]

settled_here : (x : List ℕ) (names : Names) → is_settled (added x names) x ≡ true
settled_here x names =
    elim (cases_Bool (is_among names x)) [
      | inl there ↦ rw (there, there) refl
      | inr new ↦ elim (cases_Bool (has_room names)) [
        | inl room ↦ rw (new, room) (ap (λ b. b || not (has_room (names ++ x ∷ []))) (among_last names x x ∙ ap (λ b. is_among names x || b) (same_name x) ∙ or_true (is_among names x)))
        | inr full ↦ rw (new, full, full) (or_true (is_among names x))
      ]
    ]

settled_into : (names more : Names) (y : List ℕ) → is_settled names y ≡ true → is_settled (names_into names more) y ≡ true
settled_into names [] y h = h
settled_into names (x ∷ more) y h = settled_into (added x names) more y (settled_added x names y h)

abbrev pub are_settled : Names → Names → Bool
are_settled names more = list_all (is_settled names) more

settled_all : (names more : Names) (rest : Names) → are_settled names rest ≡ true → are_settled (names_into names more) rest ≡ true
settled_all names more [] h = refl
settled_all names more (y ∷ rest) h =
    let parts = and_parts (is_settled names y) (are_settled names rest) h in
    and_from (is_settled (names_into names more) y) (are_settled (names_into names more) rest) (settled_into names more y parts.0) (settled_all names more rest parts.1)

pub settled_after : (names more : Names) → are_settled (names_into names more) more ≡ true
settled_after names [] = refl
settled_after names (x ∷ more) =
    and_from (is_settled (names_into (added x names) more) x) (are_settled (names_into (added x names) more) more)
    (settled_into (added x names) more x (settled_here x names)) (settled_after (added x names) more)

added_settled : (x : List ℕ) (names : Names) → is_settled names x ≡ true → added x names ≡ names
added_settled x names h =
    elim (cases_Bool (is_among names x)) [
      | inl there ↦ rw there refl
      | inr new ↦ (
          let full : not (has_room names) ≡ true = ap (λ b. b || not (has_room names)) (sym new) ∙ h in
          rw (new, not_false (has_room names) full) refl
          )
    ]

pub settled_same : (names more : Names) → are_settled names more ≡ true → names_into names more ≡ names
settled_same names [] h = refl
settled_same names (x ∷ more) h =
    let parts = and_parts (is_settled names x) (are_settled names more) h in
    let same = added_settled x names parts.0 in
    ap (λ n. names_into n more) same ∙ settled_same names more parts.1

-- ---- the first names of all
pub other_stays : (names : Names) (x y : List ℕ) → bytes_eq y x ≡ false → is_among (filter (λ k. not (bytes_eq y k)) names) x ≡ is_among names x
other_stays [] x y h = refl
other_stays (z ∷ names) x y h =
    elim (cases_Bool (bytes_eq y z)) [
      | inl same ↦ (
          let is : y ≡ z = (bytes_decides y z).0 same in
          let apart : bytes_eq x z ≡ false = nat_list_eq_equiv.symm x z ∙ subst (λ w. bytes_eq w x ≡ false) is h in
          rw (same, apart) (other_stays names x y h)
          )
      | inr other ↦ rw other (ap (λ b. bytes_eq x z || b) (other_stays names x y h))
    ]

pub first_among : (names : Names) (x : List ℕ) → is_among (first_names names) x ≡ is_among names x
first_among [] x = refl
first_among (y ∷ names) x =
    elim (cases_Bool (bytes_eq x y)) [
      | inl same ↦ rw same refl
      | inr other ↦ (
          let flipped : bytes_eq y x ≡ false = nat_list_eq_equiv.symm y x ∙ other in
          rw other (other_stays (first_names names) x y flipped ∙ first_among names x)
          )
    ]

filter_last : (p : List ℕ → Bool) (names : Names) (x : List ℕ) → filter p (names ++ x ∷ []) ≡ filter p names ++ filter p (x ∷ [])
filter_last p [] x = refl
filter_last p (y ∷ names) x =
    elim (cases_Bool (p y)) [
      | inl kept ↦ rw kept (ap (λ l. y ∷ l) (filter_last p names x))
      | inr gone ↦ rw gone (filter_last p names x)
    ]

abbrev other_than : List ℕ → List ℕ → Bool
other_than y k = not (bytes_eq y k)

kept_last : (y x : List ℕ) (names : Names) → bytes_eq y x ≡ false → filter (other_than y) (names ++ x ∷ []) ≡ filter (other_than y) names ++ x ∷ []
kept_last y x names h = filter_last (other_than y) names x ∙ rw h refl

gone_last : (y x : List ℕ) (names : Names) → bytes_eq y x ≡ true → filter (other_than y) (names ++ x ∷ []) ≡ filter (other_than y) names
gone_last y x names h = filter_last (other_than y) names x ∙ rw h (append-nil (filter (other_than y) names))

pub first_last : (names : Names) (x : List ℕ) → first_names (names ++ x ∷ []) ≡ (if is_among names x then first_names names else first_names names ++ x ∷ [])
first_last [] x = refl
first_last (y ∷ names) x =
    let step = ap (λ l. y ∷ filter (other_than y) l) (first_last names x) in
    elim (cases_Bool (bytes_eq x y)) [
      | inl same ↦ (
          let flipped : bytes_eq y x ≡ true = nat_list_eq_equiv.symm y x ∙ same in
          step ∙ elim (cases_Bool (is_among names x)) [
            | inl there ↦ rw (same, there) refl
            | inr new ↦ rw (same, new) (ap (λ l. y ∷ l) (gone_last y x (first_names names) flipped))
          ]
          )
      | inr other ↦ (
          let flipped : bytes_eq y x ≡ false = nat_list_eq_equiv.symm y x ∙ other in
          step ∙ elim (cases_Bool (is_among names x)) [
            | inl there ↦ rw (other, there) refl
            | inr new ↦ rw (other, new) (ap (λ l. y ∷ l) (kept_last y x (first_names names) flipped))
          ]
          )
    ]

among_front : (k : ℕ) (names : Names) (x : List ℕ) → is_among names x ≡ false → is_among (take k names) x ≡ false
among_front k names x h = (or_parts (is_among (take k names) x) (is_among (drop k names) x) (sym (among_append (take k names) (drop k names) x) ∙ ap (λ l. is_among l x) (take-append-drop k names) ∙ h)).0

-- a name more, where at most k are kept
abbrev added_within : ℕ → List ℕ → Names → Names
added_within k x names = if is_among names x then names else if nat_lt (length names) k then names ++ x ∷ [] else names

no_room : (k : ℕ) (names : Names) → k ≤ length names → nat_lt (length (take k names)) k ≡ false
no_room k names h = let e = length-take-le k names h in grind (arith, nat_tests)

room_left : (k : ℕ) (names : Names) → length names < k → nat_lt (length names) k ≡ true
room_left k names h = grind (arith, nat_tests)

old_within : (k : ℕ) (names : Names) (x : List ℕ) → is_among names x ≡ true → added_within k x (take k names) ≡ take k names
old_within k names x h =
    elim (cases_Bool (is_among (take k names) x)) [
      | inl there ↦ rw there refl
      | inr new ↦ elim (cases_lt (length names) k) [
        | inl short ↦ (
            let all : take k names ≡ names = take_all k names (omega (arith, short)) in
            let no : false ≡ true = sym new ∙ ap (λ l. is_among l x) all ∙ h in
            absurd (cc)
            )
        | inr long ↦ rw (new, no_room k names long) refl
      ]
    ]

new_within : (k : ℕ) (names : Names) (x : List ℕ) → is_among names x ≡ false → added_within k x (take k names) ≡ take k (names ++ x ∷ [])
new_within k names x h =
    let new = among_front k names x h in
    elim (cases_lt (length names) k) [
      | inl short ↦ (
          let all : take k names ≡ names = take_all k names (omega (arith, short)) in
          let long = length-append names (x ∷ []) in
          let whole : take k (names ++ x ∷ []) ≡ names ++ x ∷ [] = take_all k (names ++ x ∷ []) (omega (arith, short, long)) in
          ap (added_within k x) all ∙ rw (h, room_left k names short) (sym whole)
          )
      | inr long ↦ rw (new, no_room k names long) (sym (take-append-le k names (x ∷ []) long))
    ]

first_added : (names : Names) (x : List ℕ) → added x (take most_groups (first_names names)) ≡ take most_groups (first_names (names ++ x ∷ []))
first_added names x =
    elim (cases_Bool (is_among names x)) [
      | inl there ↦ old_within most_groups (first_names names) x (first_among names x ∙ there) ∙ ap (take most_groups) (sym (first_last names x ∙ rw there refl))
      | inr new ↦ new_within most_groups (first_names names) x (first_among names x ∙ new) ∙ ap (take most_groups) (sym (first_last names x ∙ rw new refl))
    ]

pub first_into : (names more : Names) → names_into (take most_groups (first_names names)) more ≡ take most_groups (first_names (names ++ more))
first_into names [] = ap (λ l. take most_groups (first_names l)) (sym (append-nil names))
first_into names (x ∷ more) =
    ap (λ n. names_into n more) (first_added names x) ∙ first_into (names ++ x ∷ []) more ∙ ap (λ l. take most_groups (first_names l)) (append_assoc names (x ∷ []) more)
