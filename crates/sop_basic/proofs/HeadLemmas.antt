-- An attribute that is found, added behind the others, or made anew.
use Rattle.std.proofs.Common.{◌≡◌, ℕ, suc, ◌+◌, ◌≤◌, Bool, true, false, cond, not, ltb-true, lt-ltb, List, [], ◌∷◌, ◌++◌, length, map, get_or, remove, refl, sym, ap, ◌∙◌, arith, inl, inr, length-append}
use Rattle.std.specs.Prelude.{Some, None, Result, Ok, Err, position, option_map, slice_get, nat_lt}
use Rattle.std.specs.List.{list_any, position_or_len}
use Rattle.std.specs.Str.{bytes_eq}
use Rattle.std.proofs.lemmas.Bool.{cases_Bool, false≢true, and_parts, or_parts, or_from}
use Rattle.std.proofs.lemmas.List.{get_or_append_left}
use Rattle.std.proofs.lemmas.List.Sums.{position_or_len_is, fails_before_first}
use Rattle.sop_model.specs.declared.class.Class.{Class}
use Rattle.sop_model.specs.declared.geo.Geo.{Geo}
use Rattle.sop_model.specs.declared.geo.Head.{Head}
use Rattle.sop_model.specs.declared.geo.HeadSet.{HeadSet}
use Rattle.sop_model.specs.declared.value.Kind.{Kind}
use Rattle.sop_model.specs.declared.value.Kind.TheVariants as kind
use Rattle.sop_model.specs.declared.fault.CookStop.{CookStop}
use Rattle.sop_model.specs.declared.fault.CookStop.TheVariants as stop
use Rattle.sop_model.specs.Names.{are_distinct}
use Rattle.sop_model.specs.Geometry.{heads_of}
use Rattle.sop_model.specs.Rows.{head_named, attr_added, attr_deleted}
use Rattle.sop_rows.proofs.RowOps.{heads_of-attr_added, heads_of-attr_deleted}
use Rattle.sop_rows.proofs.FirstLemmas.{bytes_same, same_bytes}
use Rattle.sop_vault.specs.Vaults.{VaultMap, Changed}
use Rattle.sop_basic.specs.Heads.{is_kind}
use Rattle.sop_basic.specs.Fillings.{IsHeadAt, Finds}
use Rattle.sop_basic.proofs.MakingLemmas.{changed_then, touched_changed, touched_then}

-- ---- where the first that passes stands
module _ {X : Type 0} (p : X → Bool) where
  far : (xs : List X) → position p xs ≡ None → length xs ≤ position_or_len p xs
  far xs is = elim (cases_Bool (nat_lt (position_or_len p xs) (length xs))) [
    | inl here ↦ let found = ap (λ (b : Bool). cond b (Some (position_or_len p xs)) None) here in absurd (let no : Some (position_or_len p xs) ≡ None = sym found ∙ is in cc)
    | inr out ↦ grind (arith, out)
  ]

  pub none_position : (xs : List X) → list_any p xs ≡ false → position p xs ≡ None
  none_position xs none = elim (cases_Bool (nat_lt (position_or_len p xs) (length xs))) [
    | inl found ↦ let l = ltb-true (position_or_len p xs) (length xs) found in let f = past xs none in absurd (omega (arith, l, f))
    | inr out ↦ ap (λ (b : Bool). cond b (Some (position_or_len p xs)) None) out
  ]
    where
      past : (xs : List X) → list_any p xs ≡ false → length xs ≤ position_or_len p xs
      past [] none = omega arith
      past (x ∷ xs) none =
          let both = or_parts (p x) (list_any p xs) none in
          let e : position_or_len p (x ∷ xs) ≡ 1 + position_or_len p xs = ap (λ (b : Bool). cond (not b) (1 + position_or_len p xs) 0) both.0 in
          omega (arith, e, past xs both.1)

  behind : (xs : List X) (y d : X) → get_or (xs ++ y ∷ []) (length xs) d ≡ y
  behind [] y d = refl
  behind (x ∷ xs) y d = behind xs y d

  pub position_push : (xs : List X) (y : X) → position p xs ≡ None → p y ≡ true → position p (xs ++ y ∷ []) ≡ Some (length xs)
  position_push xs y none passes =
      let long = length-append xs (y ∷ []) in
      let first : position_or_len p (xs ++ y ∷ []) ≡ length xs = position_or_len_is p (xs ++ y ∷ []) (length xs) y (omega (arith, long))
      (λ k lt. ap p (get_or_append_left xs (y ∷ []) y k lt) ∙ fails_before_first p xs k y (let f = far xs none in omega (arith, f, lt)))
      (λ lt. ap p (behind xs y y) ∙ passes) in
      let in_it : nat_lt (length xs) (length (xs ++ y ∷ [])) ≡ true = lt-ltb (length xs) (length (xs ++ y ∷ [])) (omega (arith, long)) in
      ap (λ n. cond (nat_lt n (length (xs ++ y ∷ []))) (Some n) None) first ∙ ap (λ (b : Bool). cond b (Some (length xs)) None) in_it

-- ---- a name that is deleted is gone
module _ (name : List ℕ) where
  abbrev is_it : Head → Bool
  is_it h = bytes_eq h.name name

  none_like : (h : Head) (heads : List Head) → h.name ≡ name → list_any (bytes_eq h.name) (map (λ k. k.name) heads) ≡ false → list_any is_it heads ≡ false
  none_like h [] same none = refl
  none_like h (k ∷ heads) same none =
      let both = or_parts (bytes_eq h.name k.name) (list_any (bytes_eq h.name) (map (λ k. k.name) heads)) none in
      elim (cases_Bool (is_it k)) [
        | inl hit ↦ absurd (false≢true (sym both.0 ∙ ap (bytes_eq h.name) (same_bytes k.name name hit ∙ sym same) ∙ bytes_same h.name))
        | inr miss ↦ or_from (is_it k) (list_any is_it heads) miss (none_like h heads same both.1)
      ]

  not_true : (b : Bool) → not b ≡ true → b ≡ false
  not_true true e = absurd (cc)
  not_true false e = refl

  gone : (heads : List Head) → are_distinct (map (λ h. h.name) heads) ≡ true → list_any is_it (remove heads (position_or_len is_it heads)) ≡ false
  gone [] distinct = refl
  gone (h ∷ heads) distinct =
      let both = and_parts (not (list_any (bytes_eq h.name) (map (λ k. k.name) heads))) (are_distinct (map (λ k. k.name) heads)) distinct in
      elim (cases_Bool (is_it h)) [
        | inl hit ↦
            let first : position_or_len is_it (h ∷ heads) ≡ 0 = ap (λ (b : Bool). cond (not b) (1 + position_or_len is_it heads) 0) hit in
            ap (λ i. list_any is_it (remove (h ∷ heads) i)) first ∙ none_like h heads (same_bytes h.name name hit) (not_true (list_any (bytes_eq h.name) (map (λ k. k.name) heads)) both.0)
        | inr miss ↦
            let later : position_or_len is_it (h ∷ heads) ≡ suc (position_or_len is_it heads) = ap (λ (b : Bool). cond (not b) (1 + position_or_len is_it heads) 0) miss ∙ (let e : 1 + position_or_len is_it heads ≡ suc (position_or_len is_it heads) = omega arith in e) in
            ap (λ i. list_any is_it (remove (h ∷ heads) i)) later ∙ or_from (is_it h) (list_any is_it (remove heads (position_or_len is_it heads))) miss (gone heads both.1)
      ]

  found_at : (heads : List Head) (i : ℕ) → position is_it heads ≡ Some i → position_or_len is_it heads ≡ i
  found_at heads i is = elim (cases_Bool (nat_lt (position_or_len is_it heads) (length heads))) [
    | inl found ↦ let e : Some (position_or_len is_it heads) ≡ Some i = sym (ap (λ (b : Bool). cond b (Some (position_or_len is_it heads)) None) found) ∙ is in cc
    | inr out ↦ absurd (let no : None ≡ Some i = sym (ap (λ (b : Bool). cond b (Some (position_or_len is_it heads)) None) out) ∙ is in cc)
  ]

  pub deleted_free : (g : Geo) (class : Class) (head : ℕ) → are_distinct (map (λ h. h.name) (heads_of g class).heads) ≡ true → head_named g class name ≡ Some head → head_named (attr_deleted g class head) class name ≡ None
  deleted_free g class head distinct is =
      ap (λ (set : HeadSet). position is_it set.heads) (heads_of-attr_deleted g class head)
      ∙ none_position is_it (remove (heads_of g class).heads head) (ap (λ i. list_any is_it (remove (heads_of g class).heads i)) (sym (found_at (heads_of g class).heads head is)) ∙ gone (heads_of g class).heads distinct)

last_kind : (heads : List Head) (h : Head) → option_map (λ x. x.kind) (slice_get (heads ++ h ∷ []) (length heads)) ≡ Some h.kind
last_kind [] h = refl
last_kind (k ∷ heads) h = last_kind heads h

-- an attribute behind the others has their number
pub added_at : (g : Geo) (class : Class) (h : Head) (number : ℕ) → head_named g class h.name ≡ None → number ≡ length (heads_of g class).heads → IsHeadAt (attr_added g class h) class h number
added_at g class h number free is =
    let heads = heads_of-attr_added g class h in
    record {
      named = ap (λ (set : HeadSet). position (λ k. bytes_eq k.name h.name) set.heads) heads ∙ position_push (λ k. bytes_eq k.name h.name) (heads_of g class).heads h free (bytes_same h.name) ∙ ap Some (sym is);
      kind = ap (λ (set : HeadSet). option_map (λ (x : Head). x.kind) (slice_get set.heads number)) heads ∙ ap (λ n. option_map (λ (x : Head). x.kind) (slice_get ((heads_of g class).heads ++ h ∷ []) n)) is ∙ last_kind (heads_of g class).heads h;
    }

pub kinds_same : (a b : Kind) → is_kind a (Some b) ≡ true → b ≡ a
kinds_same kind.Int kind.Int is = refl
kinds_same kind.Int other is = absurd (cc)
kinds_same kind.Real kind.Real is = refl
kinds_same kind.Real other is = absurd (cc)
kinds_same kind.Vector kind.Vector is = refl
kinds_same kind.Vector other is = absurd (cc)
kinds_same kind.Str kind.Str is = refl
kinds_same kind.Str other is = absurd (cc)
kinds_same kind.Ints kind.Ints is = refl
kinds_same kind.Ints other is = absurd (cc)
kinds_same kind.Reals kind.Reals is = refl
kinds_same kind.Reals other is = absurd (cc)
kinds_same kind.Vectors kind.Vectors is = refl
kinds_same kind.Vectors other is = absurd (cc)
kinds_same kind.Strs kind.Strs is = refl
kinds_same kind.Strs other is = absurd (cc)

pub finds_then : (a b c : VaultMap) (key : ℕ) (class : Class) (h : Head) (x y : Geo) (r : Result ℕ CookStop) → Changed a b key (Some x) → Finds b c key class h y r → Finds a c key class h y r
finds_then a b c key class h x y (Ok number) ch (next, is) = (changed_then a b c key (Some x) (Some y) ch next, is)
finds_then a b c key class h x y (Err (stop.Fault f)) ch (limit, passes, touched) = (limit, passes, touched_then a b c key (touched_changed a b key x ch) touched)
finds_then a b c key class h x y (Err stop.Memory) ch touched = touched_then a b c key (touched_changed a b key x ch) touched
